-- A text on its way to a sink, which takes it in large pieces: each part is added to a page that waits.
--     IsAdded before after added         the part was added, and stands in what was put or on the page
--     AddsToPage added result before after    what a call that adds this part does, by what it answers
use Rattle.std.specs.Prelude.{ℕ, List, ◌≡◌, ◌≤◌, ◌++◌, Option, Result, OnOk, OnErr, IsTrue}
use Rattle.std.specs.Io.KnownBytes.{append_known}
use Rattle.outside.specs.Faults.{Rose, Steady, is_failed}
use Rattle.outside.specs.Sink.{AppendsPrefix}
use Rattle.outside.specs.declared.fault.OutsideFault.{OutsideFault}

-- how far a text came: what the sink has, the count of its faults, and the page that waits
pub record Progress : Type 0 where
  pub text : Option (List ℕ)
  pub faults : ℕ
  pub page : List ℕ

abbrev pub progress : Option (List ℕ) → ℕ → List ℕ → Progress
progress text faults page = record { text = text; faults = faults; page = page }

-- what was put and the page now are the page before and the part that was added
pub record IsAdded (before after : Progress) (added : List ℕ) : Type 0 where
  pub put : List ℕ
  pub text : after.text ≡ append_known before.text put
  pub made : put ++ after.page ≡ before.page ++ added

-- the part was added, or after a refusal a prefix of the page and of the part was put; and the count of faults rose where a
-- fault is answered, and stays otherwise
pub record AddsToPage (added : List ℕ) {T : Type 0} (result : Result T OutsideFault)
    (before after : Progress) : Type 0 where
  pub goes_on : OnOk result (IsAdded before after added)
  pub prefix : OnErr result (AppendsPrefix before.text after.text (before.page ++ added))
  pub later : before.faults ≤ after.faults
  pub failed : IsTrue (is_failed result) → Rose before.faults after.faults
  pub steady : Steady (is_failed result) before.faults after.faults
