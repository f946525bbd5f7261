-- What the loop over the dictionaries of a command keeps.
use Rattle.std.proofs.Common.{ℕ, ◌≡◌, ◌≤◌, ◌<◌, ◌+◌, ◌-◌, ◌∙◌, List, [], ◌∷◌, ◌++◌, map, take, length, get_or, Option, None, Some, IfSome, String, string_bytes, ap, ap₂, Bool, sym, subst, ◌⊎◌, inl, inr, refl, arith, Global, length-append}
use Rattle.std.proofs.lemmas.List.{append_assoc, get_or-map, get_or_default, length-map, map-append, take_at, take_more}
use Rattle.outside.specs.Files.{Held, FilesView, FaultAt, IsLastOpened, LeavesFiles}
use Rattle.outside.specs.declared.fault.Way.TheVariants.{Reading}
use Rattle.outside.specs.declared.fault.ReadFault.{ReadFault}
use Rattle.outside.specs.declared.fault.ReadFault.TheVariants as unread
use Rattle.dict_json.specs.Dictionaries.{DictionaryView}
use Rattle.dict_json.specs.Outcomes.{Outcome, dictionary, dictionary_outcome}
use Rattle.dict_json.specs.Faults.{IsDictCause}
use Rattle.dict_json.specs.declared.faults.DictFault.{DictFault}
use Rattle.dict_json.specs.declared.faults.DictFault.TheVariants as why
use Rattle.dict_stack.specs.Stacks.{StackView, all_outlines, most_dictionaries, most_entries, stack_of}
use Rattle.report.specs.Refusals.{RefusalView, too_many_dictionaries, too_many_entries}
use Rattle.dict_files.specs.DictFiles.{file_of, kinds_of}
use Rattle.dict_files.specs.Refusals.{dictionaries_of, dictionary_in, file_refusal, first_refusal, outcome_refusal, outline_count, stack_from}
use Rattle.dict_files.specs.declared.loading.TheConstants.{MAX_BYTES}
use Rattle.dict_files.specs.Contents.{AreContents, NamesOpened, ReadingFailed, ReadsOnly, name_of_file}
use Rattle.dict_files.specs.Loading.{IsFailed, IsLoadCause, IsLoaded, IsRefused, dict_refusal, load_refusal}
use Rattle.dict_files.specs.inside.Conversions.{load_by_read}
use Rattle.dict_files.specs.inside.Reading.{AreRead, IsFileCause, IsFileRefused, IsRead}
use Rattle.dict_files.specs.declared.faults.LoadFault.{LoadFault}
use Rattle.dict_files.specs.declared.faults.LoadFault.TheVariants as of
use Rattle.dict_files.proofs.FirstRefusals.{dictionaries-accepted, dictionaries-entries, dictionaries-many, dictionaries-refused, first_refusal-next, first_refusal-stays}
use Rattle.dict_files.proofs.Files.{IsSoFar, read_refused, rest_of, so_far-all, so_far-more, so_far-none, too_long, whole}

-- so many files were accepted, and these are their dictionaries
pub record IsLoading (place : ℕ) (args : List (List ℕ)) (old now : FilesView) (all : List DictionaryView) : Type 0 where
  pub held : now.held ≡ old.held
  pub writing : now.writing ≡ old.writing
  pub faults : now.faults ≡ old.faults
  pub opened : (now.opened ≡ old.opened) ⊎ NamesOpened args now.opened
  pub contents : List (List ℕ)
  pub so_far : IsSoFar old.held args place contents
  pub accepted : first_refusal 1 contents ≡ None
  pub read : all ≡ dictionaries_of contents

pub loading-none : (args : List (List ℕ)) (old : FilesView) → IsLoading 0 args old old []
loading-none args old = record { held = refl; writing = refl; faults = refl; opened = inl refl; contents = []; so_far = so_far-none old.held args; accepted = refl; read = refl }

-- the argument at this turn
pub arg-turn : (args : List (String Global)) (place : ℕ) (arg : String Global) → arg ≡ get_or args place arg → place < length args
    → string_bytes arg ≡ get_or (map string_bytes args) place []
arg-turn args place arg is within = sym (get_or-map string_bytes args place arg [] within ∙ ap string_bytes (sym is))

-- the next file is one that an argument names
pub opened-more : (args : List (List ℕ)) (place : ℕ) (name : List ℕ) (old mid new : FilesView) → place < length args → name ≡ (file_of (get_or args place [])).name
    → (mid.opened ≡ old.opened) ⊎ NamesOpened args mid.opened → IsLastOpened name mid new → (new.opened ≡ old.opened) ⊎ NamesOpened args new.opened
opened-more args place name old mid new within is before (inl now) =
    inr (record { arg = get_or args place []; given = (place, within, get_or_default args place (get_or args place []) [] within); is = now ∙ ap Some is })
opened-more args place name old mid new within is (inl before) (inr now) = inl (now ∙ before)
opened-more args place name old mid new within is (inr before) (inr now) = inr (record { arg = before.arg; given = before.given; is = now ∙ before.is })

-- what was done of the files so far
pub reads-more : (args : List (List ℕ)) (place : ℕ) (name : List ℕ) (old mid new : FilesView) (all : List DictionaryView) → place < length args → length args ≤ most_dictionaries
    → name ≡ (file_of (get_or args place [])).name → IsLoading place args old mid all → LeavesFiles mid new → IsLastOpened name mid new → mid.faults ≤ new.faults → ReadsOnly args old new
reads-more args place name old mid new all within few is loading leaves opened later = record {
  leaves = record { held = leaves.held ∙ loading.held; writing = leaves.writing ∙ loading.writing };
  opened = opened-more args place name old mid new within is loading.opened opened;
  later = let same = loading.faults in omega arith;
  unread = λ many. absurd (omega arith);
}

pub reads-all : (args : List (List ℕ)) (place : ℕ) (old now : FilesView) (all : List DictionaryView) → length args ≤ most_dictionaries → IsLoading place args old now all → ReadsOnly args old now
reads-all args place old now all few loading = record {
  leaves = record { held = loading.held; writing = loading.writing };
  opened = loading.opened;
  later = let same = loading.faults in omega arith;
  unread = λ many. absurd (omega arith);
}

-- nothing was done
pub reads-none : (args : List (List ℕ)) (old : FilesView) → ReadsOnly args old old
reads-none args old = record { leaves = record { held = refl; writing = refl }; opened = inl refl; later = omega arith; unread = λ many. refl }

-- one more file was accepted
pub loading-more : (args : List (List ℕ)) (place : ℕ) (name : List ℕ) (old mid new : FilesView) (all : List DictionaryView) (d : DictionaryView) → place < length args
    → name ≡ (file_of (get_or args place [])).name → IsLoading place args old mid all
    → LeavesFiles mid new → IsLastOpened name mid new → new.faults ≡ mid.faults → IsRead (place + 1) name mid.held d → IsLoading (place + 1) args old new (all ++ d ∷ [])
loading-more args place name old mid new all d within is loading leaves opened faults now = record {
  held = leaves.held ∙ loading.held;
  writing = leaves.writing ∙ loading.writing;
  faults = faults ∙ loading.faults;
  opened = opened-more args place name old mid new within is loading.opened opened;
  contents = loading.contents ++ now.bytes ∷ [];
  so_far = so_far-more old.held args loading.contents place name now.bytes within is loading.so_far (subst (λ o. IfSome o (λ held. now.bytes ≡ held name)) loading.held now.held);
  accepted = first_refusal-next loading.contents now.bytes place loading.so_far.0 loading.accepted ∙ now.accepted;
  read = ap₂ (λ ds o. ds ++ dictionary_in o ∷ []) loading.read (sym now.is)
      ∙ sym (map-append (λ bytes. dictionary_in (dictionary_outcome bytes)) loading.contents (now.bytes ∷ []));
}

-- a fault of the last call is one since an earlier moment
since : (name : List ℕ) (old mid new : FilesView) → mid.faults ≡ old.faults → FaultAt name Reading mid new → FaultAt name Reading old new
since name old mid new same fault = record { rose = let r = fault.rose in omega (arith, same); place = fault.place }

named : (args : List (List ℕ)) (place : ℕ) → name_of_file args (place + 1) ≡ (file_of (get_or args place [])).name
named args place = let e : place + 1 - 1 ≡ place = omega arith in ap (λ (k : ℕ). (file_of (get_or args k [])).name) e

failed : (args : List (List ℕ)) (place : ℕ) (name : List ℕ) (old mid new : FilesView) (all : List DictionaryView) → place < length args → length args ≤ most_dictionaries
    → name ≡ (file_of (get_or args place [])).name → IsLoading place args old mid all → FaultAt name Reading mid new → IsFailed args old new (place + 1)
failed args place name old mid new all within few is loading fault =
    let within' : place ≤ length args = omega arith in
    let first : take (place + 1 - 1) (loading.contents ++ rest_of old.held args place) ≡ loading.contents =
    take_at loading.contents (rest_of old.held args place) (place + 1 - 1) (let so = loading.so_far.0 in omega (arith, so)) in
    record {
      contents = loading.contents ++ rest_of old.held args place;
      read = whole old.held args loading.contents place within' loading.so_far;
      failed = record {
        few = few;
        first = omega arith;
        last = omega arith;
        fault = since (name_of_file args (place + 1)) old mid new loading.faults (subst (λ (n : List ℕ). FaultAt n Reading mid new) (is ∙ sym (named args place)) fault);
        before = ap (first_refusal 1) first ∙ loading.accepted;
      };
    }

refused : (args : List (List ℕ)) (place : ℕ) (name : List ℕ) (old mid : FilesView) (all : List DictionaryView) (fault : RefusalView) → place < length args → length args ≤ most_dictionaries
    → name ≡ (file_of (get_or args place [])).name → IsLoading place args old mid all → IsFileRefused (place + 1) name mid.held fault → IsRefused args old.held fault
refused args place name old mid all fault within few is loading now =
    let contents : List (List ℕ) = loading.contents ++ now.bytes ∷ [] in
    let so : IsSoFar old.held args (place + 1) contents =
    so_far-more old.held args loading.contents place name now.bytes within is loading.so_far (subst (λ o. IfSome o (λ held. now.bytes ≡ held name)) loading.held now.held) in
    let here : first_refusal 1 contents ≡ Some fault = first_refusal-next loading.contents now.bytes place loading.so_far.0 loading.accepted ∙ now.refused in
    record {
      contents = contents ++ rest_of old.held args (place + 1);
      read = whole old.held args contents (place + 1) (omega arith) so;
      first = dictionaries-refused args (contents ++ rest_of old.held args (place + 1)) fault few (first_refusal-stays contents (rest_of old.held args (place + 1)) fault here);
    }

-- a refusal of the next file is the first one
pub cause-here : (args : List (List ℕ)) (place : ℕ) (name : List ℕ) (old mid new : FilesView) (all : List DictionaryView) (fault : LoadFault) → place < length args → length args ≤ most_dictionaries
    → name ≡ (file_of (get_or args place [])).name → IsLoading place args old mid all → IsFileCause (place + 1) name mid new fault → IsLoadCause args old new fault
cause-here args place name old mid new all (of.Failed at) within few is loading cause = subst (λ n. IsFailed args old new n) (sym cause.0) (failed args place name old mid new all within few is loading cause.1)
cause-here args place name old mid new all (of.Entries count) within few is loading cause = absurd cause
cause-here args place name old mid new all (of.TooMany count) within few is loading cause = absurd cause
cause-here args place name old mid new all of.Memory within few is loading cause = few
cause-here args place name old mid new all (of.TooLong file) within few is loading cause = refused args place name old mid all (load_refusal (of.TooLong file)) within few is loading cause
cause-here args place name old mid new all (of.Refused file why.Memory) within few is loading cause = absurd cause
cause-here args place name old mid new all (of.Refused file why.NotJson) within few is loading cause = refused args place name old mid all (load_refusal (of.Refused file why.NotJson)) within few is loading cause
cause-here args place name old mid new all (of.Refused file why.NotObject) within few is loading cause = refused args place name old mid all (load_refusal (of.Refused file why.NotObject)) within few is loading cause
cause-here args place name old mid new all (of.Refused file (why.NotText key)) within few is loading cause = refused args place name old mid all (load_refusal (of.Refused file (why.NotText key))) within few is loading cause
cause-here args place name old mid new all (of.Refused file (why.TooLong key parts)) within few is loading cause = refused args place name old mid all (load_refusal (of.Refused file (why.TooLong key parts))) within few is loading cause

-- all files were accepted
pub loading-all : (args : List (List ℕ)) (place : ℕ) (old now : FilesView) (all : List DictionaryView) → length args ≤ place → place ≤ length args → IsLoading place args old now all → AreRead args old.held all
loading-all args place old now all over within loading = record {
  contents = loading.contents;
  read = so_far-all old.held args loading.contents place over within loading.so_far;
  accepted = loading.accepted;
  are = loading.read;
}

-- a file wasn't read
pub read-cause : (file : ℕ) (name : List ℕ) (old new : FilesView) (fault : ReadFault) → (fault ≡ unread.TooLong → IfSome old.held (λ held. MAX_BYTES < length (held name))) → (fault ≡ unread.Failed → FaultAt name Reading old new)
    → IsFileCause file name old new (load_by_read file fault)
read-cause file name old new unread.Failed long failed = (refl, failed refl)
read-cause file name old new unread.TooLong long failed = too_long old.held file name (long refl)
read-cause file name old new unread.Memory long failed = tt

-- the bytes of a file are refused for what they come to
pub dict-cause : (file : ℕ) (name bytes : List ℕ) (old new : FilesView) (fault : DictFault) → IfSome old.held (λ held. bytes ≡ held name) → length bytes ≤ MAX_BYTES → (fault ≡ why.Memory → ⊥)
    → IsDictCause (dictionary_outcome bytes) fault → IsFileCause file name old new (of.Refused file fault)
dict-cause file name bytes old new why.NotJson is short other cause = read_refused old.held file name bytes _ is short (ap (outcome_refusal file) cause)
dict-cause file name bytes old new why.NotObject is short other cause = read_refused old.held file name bytes _ is short (ap (outcome_refusal file) cause)
dict-cause file name bytes old new (why.NotText key) is short other cause = read_refused old.held file name bytes _ is short (ap (outcome_refusal file) cause)
dict-cause file name bytes old new (why.TooLong key parts) is short other cause = read_refused old.held file name bytes _ is short (ap (outcome_refusal file) cause)
dict-cause file name bytes old new why.Memory is short other cause = absurd (other refl)

-- ---- the stack

pub loaded : (args : List (List ℕ)) (told : Option Held) (all : List DictionaryView) (kinds : List Bool) (stack : StackView) → length args ≤ most_dictionaries → AreRead args told all → kinds ≡ kinds_of args
    → length (all_outlines all) ≤ most_entries → stack ≡ stack_of all kinds → IsLoaded args told stack
loaded args told all kinds stack few read are within is = record {
  contents = read.contents;
  read = read.read;
  accepted = dictionaries-accepted args read.contents few read.accepted (subst (λ ds. length (all_outlines ds) ≤ most_entries) read.are within);
  is = is ∙ ap₂ stack_of read.are are;
}

pub many-entries : (args : List (List ℕ)) (told : Option Held) (all : List DictionaryView) (count : ℕ) → length args ≤ most_dictionaries → AreRead args told all → most_entries < length (all_outlines all) → count ≡ length (all_outlines all)
    → IsRefused args told (too_many_entries count)
many-entries args told all count few read over is = record {
  contents = read.contents;
  read = read.read;
  first = dictionaries-entries args read.contents few read.accepted (subst (λ ds. most_entries < length (all_outlines ds)) read.are over)
      ∙ ap (λ (n : ℕ). Some (too_many_entries n)) (ap (λ ds. length (all_outlines ds)) (sym read.are) ∙ sym is);
}

pub too-many : (args : List (List ℕ)) (told : Option Held) (count : ℕ) → most_dictionaries < length args → count ≡ length args → IsRefused args told (too_many_dictionaries count)
too-many args told count many is = record {
  contents = rest_of told args 0;
  read = whole told args [] 0 (omega arith) (so_far-none told args);
  first = dictionaries-many args (rest_of told args 0) many ∙ ap (λ (n : ℕ). Some (too_many_dictionaries n)) (sym is);
}

-- there are as many dictionaries as files
pub read-count : (args : List (List ℕ)) (told : Option Held) (all : List DictionaryView) → AreRead args told all → length all ≡ length args
read-count args told all read = ap length read.are ∙ length-map read.contents (λ bytes. dictionary_in (dictionary_outcome bytes)) ∙ read.read.count

-- ---- kinds

kinds-more : (args : List (List ℕ)) (place : ℕ) (arg : List ℕ) → place < length args → arg ≡ get_or args place []
    → kinds_of (take place args) ++ (file_of arg).has_words ∷ [] ≡ kinds_of (take (place + 1) args)
kinds-more args place arg within is =
    ap (λ w. kinds_of (take place args) ++ (file_of w).has_words ∷ []) is
    ∙ sym (ap kinds_of (take_more args place [] within) ∙ map-append (λ w. (file_of w).has_words) (take place args) (get_or args place [] ∷ []))

pub kinds-turn : (kinds : List Bool) (args : List (List ℕ)) (place : ℕ) (arg : List ℕ) (has : Bool) → place < length args → kinds ≡ kinds_of (take place args) → has ≡ (file_of arg).has_words → arg ≡ get_or args place []
    → kinds ++ has ∷ [] ≡ kinds_of (take (place + 1) args)
kinds-turn kinds args place arg has within before now is = ap₂ (λ ks k. ks ++ k ∷ []) before now ∙ kinds-more args place arg within is
