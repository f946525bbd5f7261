-- What is written for a refusal.
--     RefusalView              a refusal; files are counted from 1
--     refusal_text fault   its line
--     refusal_of line      the refusal that a `FaultLine` is
use Rattle.std.specs.Prelude.{ℕ, List, [], ◌∷◌, codes, decimal}
use Rattle.text_rules.specs.Lines.{line}
use Rattle.text_rules.specs.Quoted.{quoted}
use Rattle.report.specs.declared.faults.Why.{Why}
use Rattle.report.specs.declared.faults.Why.TheVariants as why
use Rattle.report.specs.declared.faults.FaultLine.{FaultLine}
use Rattle.report.specs.declared.faults.FaultLine.TheVariants as of

-- the word for why a certificate is rejected
abbrev pub why_text : Why → List ℕ
why_text why.Form = codes "form"
why_text why.Entries = codes "entries"
why_text why.States = codes "states"
why_text why.Number = codes "number"
why_text why.Start = codes "start"
why_text why.Move = codes "move"
why_text why.Count = codes "count"
why_text why.Row = codes "row"
why_text why.Rest = codes "rest"

-- a refusal
pub data RefusalView : Type 0 where
  not_words : RefusalView
  file_failed : ℕ → RefusalView
  certificate_failed : RefusalView
  not_json : ℕ → RefusalView
  not_object : ℕ → RefusalView
  not_text : ℕ → List ℕ → RefusalView
  not_report : ℕ → RefusalView
  too_many_dictionaries : ℕ → RefusalView
  too_many_bytes : ℕ → RefusalView
  outline_too_long : ℕ → List ℕ → ℕ → RefusalView
  too_many_entries : ℕ → RefusalView
  too_many_nodes : ℕ → RefusalView
  too_many_states : ℕ → RefusalView
  certificate_too_long : RefusalView
  no_memory : RefusalView
  rejected : ℕ → Why → RefusalView

-- the words of its line
abbrev pub refusal_words : RefusalView → List (List ℕ)
refusal_words not_words = codes "refused" ∷ codes "words" ∷ []
refusal_words (file_failed file) = codes "failed" ∷ codes "file" ∷ decimal file ∷ []
refusal_words certificate_failed = codes "failed" ∷ codes "certificate" ∷ []
refusal_words (not_json file) =
    codes "refused" ∷ codes "file" ∷ decimal file ∷ codes "not" ∷ codes "json" ∷ []
refusal_words (not_object file) =
    codes "refused" ∷ codes "file" ∷ decimal file ∷ codes "not" ∷ codes "object" ∷ []
refusal_words (not_text file key) =
    codes "refused" ∷ codes "file" ∷ decimal file ∷ codes "not" ∷ codes "text" ∷ quoted key ∷ []
refusal_words (not_report file) =
    codes "refused" ∷ codes "file" ∷ decimal file ∷ codes "not" ∷ codes "report" ∷ []
refusal_words (too_many_dictionaries n) = codes "limit" ∷ codes "dictionaries" ∷ decimal n ∷ []
refusal_words (too_many_bytes file) =
    codes "limit" ∷ codes "bytes" ∷ codes "file" ∷ decimal file ∷ []
refusal_words (outline_too_long file key parts) =
    codes "limit" ∷ codes "outline" ∷ codes "file" ∷ decimal file ∷ quoted key ∷ decimal parts ∷ []
refusal_words (too_many_entries n) = codes "limit" ∷ codes "entries" ∷ decimal n ∷ []
refusal_words (too_many_nodes n) = codes "limit" ∷ codes "nodes" ∷ decimal n ∷ []
refusal_words (too_many_states n) = codes "limit" ∷ codes "states" ∷ decimal n ∷ []
refusal_words certificate_too_long = codes "limit" ∷ codes "certificate" ∷ []
refusal_words no_memory = codes "memory" ∷ []
refusal_words (rejected at reason) =
    codes "rejected" ∷ codes "line" ∷ decimal at ∷ why_text reason ∷ []

-- its line
abbrev pub refusal_text : RefusalView → List ℕ
refusal_text fault = line (refusal_words fault)

-- the refusal, as the program has it
abbrev pub refusal_of : FaultLine → RefusalView
refusal_of of.Words = not_words
refusal_of (of.FileFailed file) = file_failed file
refusal_of of.CertFailed = certificate_failed
refusal_of (of.NotJson file) = not_json file
refusal_of (of.NotObject file) = not_object file
refusal_of (of.NotText file key) = not_text file key.now
refusal_of (of.NotReport file) = not_report file
refusal_of (of.Dictionaries count) = too_many_dictionaries count
refusal_of (of.Bytes file) = too_many_bytes file
refusal_of (of.OutlineLong file key parts) = outline_too_long file key.now parts
refusal_of (of.Entries count) = too_many_entries count
refusal_of (of.Nodes count) = too_many_nodes count
refusal_of (of.States count) = too_many_states count
refusal_of of.CertLong = certificate_too_long
refusal_of of.Memory = no_memory
refusal_of (of.Rejected at reason) = rejected at reason
