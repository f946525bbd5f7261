-- What the crate's reader says, in terms of `reading`.
use Rattle.std.proofs.Common.{ℕ, ◌≡◌, ◌<◌, ◌≤◌, ◌^◌, arith, length, All, List, refl, None, Some, Bool, true, false}
use Rattle.std.specs.Str.{IsUtf8, is_utf8}
use Rattle.std.proofs.lemmas.Str.{is_utf8-from_IsUtf8, IsUtf8-from_is_utf8}
use Rattle.std.specs.Bool.{if◌then◌else◌}
use Rattle.std.proofs.lemmas.List.Elements.{All-weaker, All-from_recursion}
use Rattle.serde_json.specs.Data.{Data, Members, object}
use Rattle.serde_json.specs.Read.{read}
use Rattle.dict_json.specs.Reading.{AreInOrder, names_of, members_of, reading}
use Rattle.steno_rules.proofs.Rising.{pairs_of_rises}
use Rattle.dict_json.proofs.KeyOrder.{Before, read_rises}
use Rattle.dict_json.proofs.ObjectSizes.{read_few}

pub reading-of_text : (bytes : List ℕ) (d : Data) → IsUtf8 bytes → read bytes ≡ Some d → reading bytes ≡ Some d
unfolding reading
reading-of_text bytes d utf8 e = rw (is_utf8-from_IsUtf8 bytes utf8) e

none_by : (bytes : List ℕ) (b : Bool) → is_utf8 bytes ≡ b → (IsUtf8 bytes → read bytes ≡ None) → (if b then read bytes else None) ≡ None
none_by bytes true e none = none (IsUtf8-from_is_utf8 bytes e)
none_by bytes false e none = refl

pub reading-of_none : (bytes : List ℕ) → (IsUtf8 bytes → read bytes ≡ None) → reading bytes ≡ None
unfolding reading
reading-of_none bytes none = none_by bytes (is_utf8 bytes) refl none

-- a reading is what the text is read as
read_by : (bytes : List ℕ) (b : Bool) (d : Data) → (if b then read bytes else None) ≡ Some d → read bytes ≡ Some d
read_by bytes true d e = e
read_by bytes false d e = absurd (cc)

pub read-of_reading : (bytes : List ℕ) (d : Data) → reading bytes ≡ Some d → read bytes ≡ Some d
unfolding reading
read-of_reading bytes d e = read_by bytes (is_utf8 bytes) d e

-- an object that is read from fewer than 2^32 bytes
pub few_members : (bytes : List ℕ) (ms : Members) → length bytes < 2 ^ 32 → reading bytes ≡ Some (object ms) → length (members_of ms) < 2 ^ 32
few_members bytes ms small e = omega (arith, (read_few bytes ms (read-of_reading bytes (object ms) e)).1, small)

pub short_names : (bytes : List ℕ) (ms : Members) → length bytes < 2 ^ 32 → reading bytes ≡ Some (object ms) → All (λ m. length m.name < 2 ^ 32) (members_of ms)
short_names bytes ms small e = All-weaker (λ m. length m.name ≤ length bytes) (λ m. length m.name < 2 ^ 32) (λ m h. omega (arith, h, small)) (members_of ms)
    (All-from_recursion (λ m. length m.name ≤ length bytes) (members_of ms) (read_few bytes ms (read-of_reading bytes (object ms) e)).0)

pub names_in_order : (bytes : List ℕ) (ms : Members) → reading bytes ≡ Some (object ms) → AreInOrder (names_of ms)
names_in_order bytes ms e = pairs_of_rises Before (names_of ms) (read_rises bytes ms (read-of_reading bytes (object ms) e))
