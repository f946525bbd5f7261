-- What the function of a command returns that reads dictionaries into a stack, or reads no file.
use Rattle.std.proofs.Common.{ℕ, ◌≡◌, ◌<◌, ◌≤◌, ◌∙◌, ◌⊎◌, inl, inr, List, [], ap, sym, subst, refl, arith, length, map, Option, Some, None, IfSome, Result, Ok, Err, Bool, true, false, true≢false, cond, nat_le, nat_lt}
use Rattle.std.proofs.lemmas.Bool.Decides.{nat_tests}
use Rattle.std.proofs.lemmas.List.{length-map}
use Rattle.outside.specs.Files.{Held, FilesView}
use Rattle.dict_stack.specs.Stacks.{StackView, most_dictionaries, most_entries}
use Rattle.report.specs.Refusals.{RefusalView, file_failed, not_words, too_many_dictionaries, too_many_entries}
use Rattle.dict_json.specs.declared.faults.DictFault.TheVariants as why
use Rattle.dict_files.specs.Refusals.{dictionaries_refusal, first_of, first_refusal, if_over, outline_count, stack_from}
use Rattle.dict_files.specs.Contents.{AreContents, NamesOpened, ReadingFailed, ReadsOnly}
use Rattle.dict_files.specs.DictFiles.{bytes_of, file_of}
use Rattle.dict_files.specs.Loading.{IsFailed, IsLoadCause, IsLoaded, IsRefused, is_load_failed}
use Rattle.dict_files.specs.declared.faults.LoadFault.{LoadFault}
use Rattle.dict_files.specs.declared.faults.LoadFault.TheVariants as load
use Rattle.commands.specs.Commands.{CommandView, audit, audit_json, brief_outlines, explain, parse, replay, settled, try_briefs}
use Rattle.commands.specs.Inputs.{dictionaries_in, file_in, reads_files}
use Rattle.audit_top.specs.Outcomes.{Expected, Inputs, OverStack, UnlessRefused, refused, trie_limit, search_limit}
use Rattle.audit_top.specs.Translated.{IsExplained, IsReplay}
use Rattle.audit_top.specs.Audited.{IsAudit, IsAuditJson}
use Rattle.audit_top.specs.Parsed.{IsParse}
use Rattle.audit_top.specs.Tried.{IsTry}
use Rattle.audit_top.specs.Kept.{IsSettled}
use Rattle.audit_top.specs.Expected.{IsExpected}
use Rattle.audit_top.specs.Runs.{AreInputs, FailsNamed, MayProduce, OpensNamed, OutputView, World, Writes}
use Rattle.audit_top.specs.inside.Answers.{Answers, IsAnswer, IsAnswered, IsStopped, Stops, needs_memory}
use Rattle.audit_top.specs.inside.Stops.{Stop, by_memory, by_output, by_refusal, refusal_of_load, stop_of}
use Rattle.audit_top.specs.declared.refusals.Refusal.{Refusal}
use Rattle.audit_top.specs.declared.refusals.Refusal.TheVariants as of
use Rattle.audit_top.specs.declared.status.Status.{Status}
use Rattle.audit_top.proofs.Stops.{begins-nothing, begins-weaker}

abbrev pub at : FilesView → OutputView → World
at files out = record { files = files; out = out }

-- an answer has one reason
same_reason : (a b : Refusal) (answer : Result Status Refusal) → answer ≡ Err a → answer ≡ Err b → a ≡ b
same_reason a b answer x y = cc

failed_differs : (file : ℕ) → of.Dictionaries (load.Failed file) ≡ of.Memory → ⊥
failed_differs file e = cc

arguments_differ : of.Arguments ≡ of.Memory → ⊥
arguments_differ e = cc

-- ---- a part that writes to the output alone, in a run that leaves the files

lift_stopped : (May May' : Expected → Type 0) (old new : FilesView) (before after : OutputView) (stop : Stop) → new.held ≡ old.held → ((r : Expected) → May r → May' r)
    → Stops May before after stop → IsStopped May' (at old before) (at new after) stop
lift_stopped May May' old new before after by_output held to is = (record { text = begins-weaker May May' before.text after.text to is.0; file = None; part = tt; files = held }, is.1)
lift_stopped May May' old new before after by_memory held to is = (record { text = begins-weaker May May' before.text after.text to is.0; file = None; part = tt; files = held }, is.1)
lift_stopped May May' old new before after (by_refusal refusal) held to is = record { result = refused refusal; may = to (refused refusal) is.0; ends = refl; line = refl; out = is.1; files = held }

pub lift : (May May' : Expected → Type 0) (old new : FilesView) (before after : OutputView) (answer : Result Status Refusal) → new.held ≡ old.held → ((r : Expected) → May r → May' r)
    → Answers May before after answer → IsAnswered May' (at old before) (at new after) answer
lift May May' old new before after (Ok status) held to is =
    record { result = is.result; may = to is.result is.may; ends = is.ends; text = is.text; files = subst (λ f. Writes f old new) (sym is.no_file) held; steady = is.steady }
lift May May' old new before after (Err refusal) held to is = lift_stopped May May' old new before after (stop_of refusal) held to is

-- ---- over the stack of dictionaries

-- a command that reads dictionaries first: these are its own, and their refusals are those that are expected of it
pub record HasStack (command : Option CommandView) (dicts : List (List ℕ)) : Type 0 where
  pub dictionaries : dictionaries_in command ≡ dicts
  pub reads : reads_files command ≡ nat_le (length dicts) most_dictionaries
  pub needs : needs_memory command ≡ nat_le (length dicts) most_dictionaries
  pub refused : (inputs : Inputs) (refusal : RefusalView) → dictionaries_refusal dicts inputs.dictionaries ≡ Some refusal → IsExpected inputs command (refused refusal)

-- and this follows over their stack
pub record IsOver (command : Option CommandView) (dicts : List (List ℕ)) (limit : StackView → Option RefusalView) (Follows : StackView → Expected → Type 0) : Type 0 where
  pub base : HasStack command dicts
  pub expected : (inputs : Inputs) (result : Expected) → OverStack limit Follows dicts inputs.dictionaries result → IsExpected inputs command result

pub too_many : (command : Option CommandView) (dicts : List (List ℕ)) → reads_files command ≡ nat_le (length dicts) most_dictionaries → reads_files command ≡ false → most_dictionaries < length dicts
too_many command dicts reads none = let test : nat_le (length dicts) most_dictionaries ≡ false = sym reads ∙ none in grind (arith, nat_tests)

pub few_need : (command : Option CommandView) (dicts : List (List ℕ)) → needs_memory command ≡ nat_le (length dicts) most_dictionaries → length dicts ≤ most_dictionaries → needs_memory command ≡ true
few_need command dicts needs few = let test : nat_le (length dicts) most_dictionaries ≡ true = grind (arith, nat_tests) in needs ∙ test

-- what a file holds, where it's told
unfoldable pub some_file : Option Held → Option (List ℕ) → Option (List ℕ)
some_file None name = None
some_file (Some held) None = None
some_file (Some held) (Some name) = Some (held name)

pub is-some_file : (told : Option Held) (name : Option (List ℕ)) → IfSome told (λ held. IfSome name (λ n. some_file told name ≡ Some (held n)))
unfolding some_file
is-some_file None name = tt
is-some_file (Some held) None = tt
is-some_file (Some held) (Some name) = refl

-- the contents of dictionaries, and what the other file holds
pub inputs_of : Option CommandView → Option Held → List (List ℕ) → Inputs
inputs_of command told contents = record { dictionaries = contents; file = some_file told (file_in command) }

inputs_are : (command : Option CommandView) (dicts : List (List ℕ)) (told : Option Held) (contents : List (List ℕ)) → dictionaries_in command ≡ dicts → AreContents told dicts contents → AreInputs command told (inputs_of command told contents)
unfolding inputs_of
inputs_are command dicts told contents are read = record { dictionaries = subst (λ ds. AreContents told ds contents) (sym are) read; file = is-some_file told (file_in command) }

-- where nothing was read there are some contents too
pub some_contents : Option Held → List (List ℕ) → List (List ℕ)
some_contents None dicts = map (λ _. []) dicts
some_contents (Some held) dicts = bytes_of held dicts

pub are-some : (told : Option Held) (dicts : List (List ℕ)) → AreContents told dicts (some_contents told dicts)
unfolding some_contents
are-some None dicts = record { count = length-map dicts (λ _. []); held = tt }
are-some (Some held) dicts = record { count = length-map dicts (λ arg. held (file_of arg).name); held = refl }

pub are_none : (told : Option Held) → AreContents told [] []
are_none None = record { count = refl; held = tt }
are_none (Some held) = record { count = refl; held = refl }

pub opens : (command : Option CommandView) (dicts : List (List ℕ)) (old new : FilesView) → dictionaries_in command ≡ dicts → ReadsOnly dicts old new → OpensNamed command old new
opens command dicts old new are reads = by (subst (λ ds. (new.opened ≡ old.opened) ⊎ NamesOpened ds new.opened) (sym are) reads.opened)
  where
    by : (new.opened ≡ old.opened) ⊎ NamesOpened (dictionaries_in command) new.opened → OpensNamed command old new
    by (inl same) = inl same
    by (inr names) = inr (inl names)

-- dictionaries that are accepted aren't too many
pub few_accepted : (dicts contents : List (List ℕ)) → dictionaries_refusal dicts contents ≡ None → length dicts ≤ most_dictionaries
few_accepted dicts contents accepted = by (nat_lt most_dictionaries (length dicts)) refl accepted
  where
    rest : Option RefusalView
    rest = first_of (first_refusal 1 contents) (if_over most_entries too_many_entries (outline_count contents))

    by : (b : Bool) → nat_lt most_dictionaries (length dicts) ≡ b → first_of (cond b (Some (too_many_dictionaries (length dicts))) None) rest ≡ None → length dicts ≤ most_dictionaries
    by true over none = absurd (true≢false cc)
    by false within none = grind (arith, nat_tests)

-- the dictionaries are accepted
pub accepted_stack : (limit : StackView → Option RefusalView) (Follows : StackView → Expected → Type 0) (dicts contents : List (List ℕ)) (stack : StackView) (r : Expected) → dictionaries_refusal dicts contents ≡ None → stack ≡ stack_from dicts contents
    → UnlessRefused (limit stack) (Follows stack) r → OverStack limit Follows dicts contents r
accepted_stack limit Follows dicts contents stack r accepted is may =
    subst (λ o. UnlessRefused (first_of o (limit (stack_from dicts contents))) (Follows (stack_from dicts contents)) r) (sym accepted)
    (subst (λ (s : StackView). UnlessRefused (limit s) (Follows s) r) is may)

-- they are refused
pub refused-stack : (limit : StackView → Option RefusalView) (Follows : StackView → Expected → Type 0) (dicts contents : List (List ℕ)) (refusal : RefusalView) → dictionaries_refusal dicts contents ≡ Some refusal → OverStack limit Follows dicts contents (refused refusal)
refused-stack limit Follows dicts contents refusal first =
    subst (λ o. UnlessRefused (first_of o (limit (stack_from dicts contents))) (Follows (stack_from dicts contents)) (refused refusal)) (sym first) refl

-- what a command returns that reads dictionaries first
module _ (command : Option CommandView) (dicts : List (List ℕ)) (base : HasStack command dicts) where
  read_answer : (contents : List (List ℕ)) (old new : FilesView) (before after : OutputView) (answer : Result Status Refusal) → AreContents old.held dicts contents → ReadsOnly dicts old new
      → FailsNamed command (inputs_of command old.held contents) old new → (answer ≡ Err of.Memory → (length dicts ≤ most_dictionaries) × (new.faults ≡ old.faults))
      → IsAnswered (MayProduce command (inputs_of command old.held contents) (at old before) (at new after)) (at old before) (at new after) answer
      → IsAnswer command (at old before) (at new after) answer
  read_answer contents old new before after answer read reads fails memory is = record {
    inputs = inputs_of command old.held contents;
    read = inputs_are command dicts old.held contents base.dictionaries read;
    is = is;
    memory = λ e. record { needed = few_need command dicts base.needs (memory e).0; steady = (memory e).1 };
    unchanged = λ _. reads.leaves;
    opened = opens command dicts old new base.dictionaries reads;
    faults = fails;
    unread = λ none. reads.unread (too_many command dicts base.reads none);
  }

  -- reading the stack is refused
  load_refused : (refusal : RefusalView) (old new : FilesView) (out : OutputView) (reason : Refusal)
      → IsRefused dicts old.held refusal → ReadsOnly dicts old new → new.faults ≡ old.faults → (reason ≡ of.Memory → ⊥)
      → stop_of reason ≡ by_refusal refusal → IsAnswer command (at old out) (at new out) (Err reason)
  unfolding inputs_of
  load_refused refusal old new out reason is reads steady other stop =
      let inputs : Inputs = inputs_of command old.held is.contents in
      read_answer is.contents old new out out (Err reason) is.read reads (inl steady) (λ e. absurd (other cc))
      (subst (IsStopped (MayProduce command inputs (at old out) (at new out)) (at old out) (at new out)) (sym stop) (record {
        result = refused refusal;
        may = inl (base.refused inputs refusal is.first);
        ends = refl;
        line = refl;
        out = refl;
        files = reads.leaves.held;
      }))

  load_failed : (file : ℕ) (old new : FilesView) (out : OutputView)
      → IsFailed dicts old new file → ReadsOnly dicts old new → IsAnswer command (at old out) (at new out) (Err (of.Dictionaries (load.Failed file)))
  unfolding inputs_of
  load_failed file old new out is reads =
      let failed : ReadingFailed (dictionaries_in command) is.contents old new file = subst (λ ds. ReadingFailed ds is.contents old new file) (sym base.dictionaries) is.failed in
      read_answer is.contents old new out out (Err (of.Dictionaries (load.Failed file))) is.read reads (inr (record { refusal = file_failed file; failed = inl (failed, reads.leaves) })) (λ e. absurd (failed_differs file (same_reason (of.Dictionaries (load.Failed file)) of.Memory (Err (of.Dictionaries (load.Failed file))) refl e)))
      (record {
        result = refused (file_failed file);
        may = inr (record { refusal = file_failed file; failed = inl (failed, reads.leaves); status_is = refl; text_is = refl; file = tt });
        ends = refl;
        line = refl;
        out = refl;
        files = reads.leaves.held;
      })

  load_ran_out : (old new : FilesView) (out : OutputView) → length dicts ≤ most_dictionaries → ReadsOnly dicts old new → new.faults ≡ old.faults → IsAnswer command (at old out) (at new out) (Err of.Memory)
  load_ran_out old new out few reads steady =
      read_answer (some_contents old.held dicts) old new out out (Err of.Memory) (are-some old.held dicts) reads (inl steady) (λ _. (few, steady))
      (record { text = begins-nothing (MayProduce command (inputs_of command old.held (some_contents old.held dicts)) (at old out) (at new out)) out.text; file = None; part = tt; files = reads.leaves.held }, refl)

  by_fault : (fault : LoadFault) (old new : FilesView) (out : OutputView) → IsLoadCause dicts old new fault → ReadsOnly dicts old new → (is_load_failed {T = Status} (Err fault) ≡ false → new.faults ≡ old.faults)
      → IsAnswer command (at old out) (at new out) (Err (refusal_of_load fault))
  by_fault (load.TooMany count) old new out cause reads steady = load_refused _ old new out (of.Dictionaries (load.TooMany count)) cause reads (steady refl) (λ e. cc) refl
  by_fault (load.TooLong file) old new out cause reads steady = load_refused _ old new out (of.Dictionaries (load.TooLong file)) cause reads (steady refl) (λ e. cc) refl
  by_fault (load.Entries count) old new out cause reads steady = load_refused _ old new out (of.Dictionaries (load.Entries count)) cause reads (steady refl) (λ e. cc) refl
  by_fault (load.Failed file) old new out cause reads steady = load_failed file old new out cause reads
  by_fault load.Memory old new out cause reads steady = load_ran_out old new out cause reads (steady refl)
  by_fault (load.Refused file why.Memory) old new out cause reads steady = absurd cause
  by_fault (load.Refused file why.NotJson) old new out cause reads steady = load_refused _ old new out (of.Dictionaries (load.Refused file why.NotJson)) cause reads (steady refl) (λ e. cc) refl
  by_fault (load.Refused file why.NotObject) old new out cause reads steady = load_refused _ old new out (of.Dictionaries (load.Refused file why.NotObject)) cause reads (steady refl) (λ e. cc) refl
  by_fault (load.Refused file (why.NotText key)) old new out cause reads steady = load_refused _ old new out (of.Dictionaries (load.Refused file (why.NotText key))) cause reads (steady refl) (λ e. cc) refl
  by_fault (load.Refused file (why.TooLong key parts)) old new out cause reads steady = load_refused _ old new out (of.Dictionaries (load.Refused file (why.TooLong key parts))) cause reads (steady refl) (λ e. cc) refl

  -- reading the stack failed, whatever the reason
  pub over-fault : (fault : LoadFault) (old new : FilesView) (out : OutputView) (answer : Result Status Refusal) (refusal : Refusal)
      → IsLoadCause dicts old new fault → ReadsOnly dicts old new → (is_load_failed {T = Status} (Err fault) ≡ false → new.faults ≡ old.faults)
      → answer ≡ Err refusal → refusal ≡ refusal_of_load fault → IsAnswer command (at old out) (at new out) answer
  over-fault fault old new out answer refusal cause reads steady is by =
      subst (IsAnswer command (at old out) (at new out)) (sym (is ∙ ap Err by)) (by_fault fault old new out cause reads steady)

-- within all limits of the dictionaries the rest answers
pub over-stack : (command : Option CommandView) (dicts : List (List ℕ)) (limit : StackView → Option RefusalView) (Follows : StackView → Expected → Type 0) (over : IsOver command dicts limit Follows)
    (stack : StackView) (old new : FilesView) (before after : OutputView) (answer : Result Status Refusal)
    → IsLoaded dicts old.held stack → ReadsOnly dicts old new → new.faults ≡ old.faults
    → Answers (UnlessRefused (limit stack) (Follows stack)) before after answer → IsAnswer command (at old before) (at new after) answer
unfolding inputs_of
over-stack command dicts limit Follows over stack old new before after answer loaded reads steady answers =
    let few = few_accepted dicts loaded.contents loaded.accepted in
    let inputs : Inputs = inputs_of command old.held loaded.contents in
    read_answer command dicts over.base loaded.contents old new before after answer loaded.read reads (inl steady) (λ _. (few, steady))
    (lift (UnlessRefused (limit stack) (Follows stack)) (MayProduce command inputs (at old before) (at new after)) old new before after answer reads.leaves.held
    (λ r is. inl (over.expected inputs r (accepted_stack limit Follows dicts loaded.contents stack r loaded.accepted loaded.is is))) answers)

-- ---- without files

pub without-files : (May : Expected → Type 0) (command : Option CommandView) (files : FilesView) (before after : OutputView) (answer : Result Status Refusal)
    → dictionaries_in command ≡ [] → needs_memory command ≡ true → ((inputs : Inputs) (r : Expected) → May r → IsExpected inputs command r)
    → Answers May before after answer → IsAnswer command (at files before) (at files after) answer
without-files May command files before after answer none needs expected answers =
    let inputs : Inputs = inputs_of command files.held [] in
    record {
      inputs = inputs;
      read = inputs_are command [] files.held [] none (are_none files.held);
      is = lift May (MayProduce command inputs (at files before) (at files after)) files files before after answer refl (λ r is. inl (expected inputs r is)) answers;
      memory = λ _. record { needed = needs; steady = refl };
      unchanged = λ _. record { held = refl; writing = refl };
      opened = inl refl;
      faults = inl refl;
      unread = λ _. refl;
    }

-- arguments that are no command
pub no-command : (files : FilesView) (out : OutputView) → IsAnswer None (at files out) (at files out) (Err of.Arguments)
no-command files out = record {
  inputs = inputs_of None files.held [];
  read = inputs_are None [] files.held [] refl (are_none files.held);
  is = record { result = refused not_words; may = inl refl; ends = refl; line = refl; out = refl; files = refl };
  memory = λ e. absurd (arguments_differ (same_reason of.Arguments of.Memory (Err of.Arguments) refl e));
  unchanged = λ _. record { held = refl; writing = refl };
  opened = inl refl;
  faults = inl refl;
  unread = λ _. refl;
}

-- the commands
pub is-replay : (outline : List ℕ) (dicts : List (List ℕ)) → IsOver (Some (replay outline dicts)) dicts trie_limit (IsReplay outline)
is-replay outline dicts = record {
  base = record { dictionaries = refl; reads = refl; needs = refl; refused = λ inputs refusal first. refused-stack trie_limit (IsReplay outline) dicts inputs.dictionaries refusal first };
  expected = λ inputs r is. is;
}

pub is-explain : (outlines dicts : List (List ℕ)) → IsOver (Some (explain outlines dicts)) dicts trie_limit (IsExplained outlines)
is-explain outlines dicts = record {
  base = record { dictionaries = refl; reads = refl; needs = refl; refused = λ inputs refusal first. refused-stack trie_limit (IsExplained outlines) dicts inputs.dictionaries refusal first };
  expected = λ inputs r is. is;
}

pub is-audit : (workers : ℕ) (dicts : List (List ℕ)) → IsOver (Some (audit workers dicts)) dicts search_limit IsAudit
is-audit workers dicts = record {
  base = record { dictionaries = refl; reads = refl; needs = refl; refused = λ inputs refusal first. refused-stack search_limit IsAudit dicts inputs.dictionaries refusal first };
  expected = λ inputs r is. is;
}

pub is-audit_json : (workers : ℕ) (dicts : List (List ℕ)) → IsOver (Some (audit_json workers dicts)) dicts search_limit IsAuditJson
is-audit_json workers dicts = record {
  base = record { dictionaries = refl; reads = refl; needs = refl; refused = λ inputs refusal first. refused-stack search_limit IsAuditJson dicts inputs.dictionaries refusal first };
  expected = λ inputs r is. is;
}

pub is-parse : (workers : ℕ) (dicts : List (List ℕ)) → IsOver (Some (parse workers dicts)) dicts search_limit IsParse
is-parse workers dicts = record {
  base = record { dictionaries = refl; reads = refl; needs = refl; refused = λ inputs refusal first. refused-stack search_limit IsParse dicts inputs.dictionaries refusal first };
  expected = λ inputs r is. is;
}

pub is-try : (workers : ℕ) (briefs : List ℕ) (dicts : List (List ℕ)) → IsOver (Some (try_briefs workers briefs dicts)) dicts search_limit (IsTry (brief_outlines briefs))
is-try workers briefs dicts = record {
  base = record { dictionaries = refl; reads = refl; needs = refl; refused = λ inputs refusal first. refused-stack search_limit (IsTry (brief_outlines briefs)) dicts inputs.dictionaries refusal first };
  expected = λ inputs r is. is;
}

pub is-settled : (workers : ℕ) (dicts : List (List ℕ)) → IsOver (Some (settled workers dicts)) dicts search_limit IsSettled
is-settled workers dicts = record {
  base = record { dictionaries = refl; reads = refl; needs = refl; refused = λ inputs refusal first. refused-stack search_limit IsSettled dicts inputs.dictionaries refusal first };
  expected = λ inputs r is. is;
}
