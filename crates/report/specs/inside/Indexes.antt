-- What is looked up of a stack while rows are written: the text of each outline, and the entries that an outline begins
-- with.
--     IsTextIndex outlines text ends     the outlines' texts, laid end to end, and where each begins and ends
--     IsLongestOf entries count x found  the longest of the first so many entries that x begins with
--     AreShorter entries count shorter   for each of the first so many entries the longest one before it that it begins with
--     IsBegunFrom entries count x from         all of the first so many entries that x begins with begin also the entry `from`
use Rattle.std.specs.Prelude.{ℕ, zero, suc, ◌≡◌, ◌+◌, ◌<◌, ◌≤◌, List, Option, Some, None, true, false, length, take, flat_map, get_or}
use Rattle.steno_rules.specs.Outlines.{AreEntries, begins_with, outline_of}
use Rattle.steno_order.specs.Canonical.{canonical_text}

-- the texts of outlines, one after another
abbrev pub texts_of : List (List ℕ) → List ℕ
texts_of outlines = flat_map canonical_text outlines

-- the text of the outline e stands from the place of number e to that of number e + 1
pub record IsTextIndex (outlines : List (List ℕ)) (text ends : List ℕ) : Type 0 where
  pub text_is : text ≡ texts_of outlines
  pub count : length ends ≡ length outlines + 1
  pub each : (e : ℕ) → e ≤ length outlines → get_or ends e 0 ≡ length (texts_of (take e outlines))

-- x begins with the entry e, which is one of the first so many, and with none of them that is longer
pub record IsLongestAt (entries : List (List ℕ)) (count : ℕ) (x : List ℕ) (e : ℕ) : Type 0 where
  pub below : e < count
  pub begins : begins_with x (outline_of entries e) ≡ true
  pub longest : (k : ℕ) → k < count → begins_with x (outline_of entries k) ≡ true
      → length (outline_of entries k) ≤ length (outline_of entries e)

-- None where x begins with none of them
abbrev pub IsLongestOf : List (List ℕ) → ℕ → List ℕ → Option ℕ → Type 0
IsLongestOf entries count x None =
    (k : ℕ) → k < count → begins_with x (outline_of entries k) ≡ false
IsLongestOf entries count x (Some e) = IsLongestAt entries count x e

pub record AreShorter (entries : List (List ℕ)) (count : ℕ) (shorter : List (Option ℕ))
    : Type 0 where
  pub long : length shorter ≡ count
  pub each : (e : ℕ) → e < count
      → IsLongestOf entries e (outline_of entries e) (get_or shorter e None)

-- the entry e is one of the first so many, and begins with all of them with which x begins
pub record IsBegunAt (entries : List (List ℕ)) (count : ℕ) (x : List ℕ) (e : ℕ) : Type 0 where
  pub below : e < count
  pub all : (k : ℕ) → k < count → begins_with x (outline_of entries k) ≡ true
      → begins_with (outline_of entries e) (outline_of entries k) ≡ true

abbrev pub IsBegunFrom : List (List ℕ) → ℕ → List ℕ → Option ℕ → Type 0
IsBegunFrom entries count x None = IsLongestOf entries count x None
IsBegunFrom entries count x (Some e) = IsBegunAt entries count x e

-- the number before this one
abbrev pub previous : ℕ → Option ℕ
previous zero = None
previous (suc n) = Some n

-- what an index has of the entries of a stack
pub record IsIndex (outlines : List (List ℕ)) (text ends : List ℕ) (shorter : List (Option ℕ))
    : Type 0 where
  pub are_entries : AreEntries outlines
  pub texts : IsTextIndex outlines text ends
  pub are_shorter : AreShorter outlines (length outlines) shorter
