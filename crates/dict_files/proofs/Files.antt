-- The bytes of files that were read so far, and those of all files.
use Rattle.std.proofs.Common.{ℕ, ◌≡◌, ◌<◌, ◌≤◌, ◌+◌, ◌-◌, ◌∙◌, List, [], ◌∷◌, ◌++◌, length, map, take, drop, get_or, ap, ap₂, sym, subst, refl, arith, Option, Some, None, IfSome, replicate, length-append}
use Rattle.std.proofs.lemmas.List.{append_assoc, length-map, length-drop, length-take-le, length-replicate, map-append, take-append-drop, take_all, take_more}
use Rattle.outside.specs.Files.{Held}
use Rattle.dict_json.specs.Outcomes.{dictionary_outcome}
use Rattle.report.specs.Refusals.{RefusalView, too_many_bytes}
use Rattle.dict_files.specs.DictFiles.{bytes_of, file_of}
use Rattle.dict_files.specs.Refusals.{file_refusal, outcome_refusal}
use Rattle.dict_files.specs.declared.loading.TheConstants.{MAX_BYTES}
use Rattle.dict_files.specs.Contents.{AreContents}
use Rattle.dict_files.specs.inside.Reading.{IsFileRefused}
use Rattle.dict_files.proofs.FirstRefusals.{file_refusal-long, file_refusal-short}

-- the first files have these bytes, as far as they are told
abbrev pub IsSoFar : Option Held → List (List ℕ) → ℕ → List (List ℕ) → Type 0
IsSoFar told args place contents = (length contents ≡ place) × IfSome told (λ held. contents ≡ bytes_of held (take place args))

-- bytes of the file, if it's told
pub bytes_by : Option Held → List ℕ → List ℕ
bytes_by None name = []
bytes_by (Some held) name = held name

-- and those of the files from a place on
pub rest_of : Option Held → List (List ℕ) → ℕ → List (List ℕ)
rest_of told args place = map (λ arg. bytes_by told (file_of arg).name) (drop place args)

held_whole : (told : Option Held) (args contents : List (List ℕ)) (place : ℕ) → IfSome told (λ held. contents ≡ bytes_of held (take place args)) → IfSome told (λ held. contents ++ rest_of told args place ≡ bytes_of held args)
unfolding rest_of bytes_by
held_whole None args contents place is = tt
held_whole (Some h) args contents place is =
    ap (λ l. l ++ bytes_of h (drop place args)) is
    ∙ sym (map-append (λ arg. h (file_of arg).name) (take place args) (drop place args))
    ∙ ap (bytes_of h) (take-append-drop place args)

-- with them the bytes of the first files are those of all
pub whole : (told : Option Held) (args contents : List (List ℕ)) (place : ℕ) → place ≤ length args → IsSoFar told args place contents → AreContents told args (contents ++ rest_of told args place)
unfolding rest_of
whole told args contents place within so = record {
  count = let others : List (List ℕ) = drop place args in omega (arith, length-append contents (rest_of told args place), length-map (drop place args) (λ arg. bytes_by told (file_of arg).name), length-drop place args, so.0);
  held = held_whole told args contents place so.1;
}

held_more : (told : Option Held) (args contents : List (List ℕ)) (place : ℕ) (name bytes : List ℕ) → place < length args → name ≡ (file_of (get_or args place [])).name
    → IfSome told (λ held. contents ≡ bytes_of held (take place args)) → IfSome told (λ held. bytes ≡ held name)
    → IfSome told (λ held. contents ++ bytes ∷ [] ≡ bytes_of held (take (place + 1) args))
held_more None args contents place name bytes within named so is = tt
held_more (Some h) args contents place name bytes within named so is =
    ap₂ (λ cs b. cs ++ b ∷ []) so (is ∙ ap h named)
    ∙ sym (ap (bytes_of h) (take_more args place [] within) ∙ map-append (λ arg. h (file_of arg).name) (take place args) (get_or args place [] ∷ []))

-- one more file was read
pub so_far-more : (told : Option Held) (args contents : List (List ℕ)) (place : ℕ) (name bytes : List ℕ) → place < length args → name ≡ (file_of (get_or args place [])).name
    → IsSoFar told args place contents → IfSome told (λ held. bytes ≡ held name) → IsSoFar told args (place + 1) (contents ++ bytes ∷ [])
so_far-more told args contents place name bytes within named so is =
    (omega (arith, length-append contents (bytes ∷ []), so.0), held_more told args contents place name bytes within named so.1 is)

-- no file was read
pub so_far-none : (told : Option Held) (args : List (List ℕ)) → IsSoFar told args 0 []
so_far-none None args = (refl, tt)
so_far-none (Some h) args = (refl, refl)

-- all files were read
pub so_far-all : (told : Option Held) (args contents : List (List ℕ)) (place : ℕ) → length args ≤ place → place ≤ length args → IsSoFar told args place contents → AreContents told args contents
so_far-all told args contents place over within so = record { count = omega (arith, so.0); held = by told so.1 }
  where
    by : (told : Option Held) → IfSome told (λ held. contents ≡ bytes_of held (take place args)) → IfSome told (λ held. contents ≡ bytes_of held args)
    by None is = tt
    by (Some h) is = is ∙ ap (bytes_of h) (take_all place args over)

-- ---- one file

-- there are lists of any length, which is all that is known of a file that isn't told
longer : (n : ℕ) → (bytes : List ℕ) × (n < length bytes)
longer n = (replicate (n + 1) 0, omega (arith, length-replicate {A = ℕ} (n + 1) 0))

-- a file of too many bytes
pub too_long : (told : Option Held) (file : ℕ) (name : List ℕ) → IfSome told (λ held. MAX_BYTES < length (held name)) → IsFileRefused file name told (too_many_bytes file)
too_long None file name long =
    let some = longer MAX_BYTES in
    record { bytes = some.0; held = tt; refused = file_refusal-long file some.0 some.1 }
too_long (Some h) file name long = record { bytes = h name; held = refl; refused = file_refusal-long file (h name) long }

-- a file whose bytes were read
pub read_refused : (told : Option Held) (file : ℕ) (name bytes : List ℕ) (fault : RefusalView) → IfSome told (λ held. bytes ≡ held name) → length bytes ≤ MAX_BYTES
    → outcome_refusal file (dictionary_outcome bytes) ≡ Some fault → IsFileRefused file name told fault
read_refused told file name bytes fault is short cause = record { bytes = bytes; held = is; refused = file_refusal-short file bytes short ∙ cause }
