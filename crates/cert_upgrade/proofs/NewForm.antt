-- The form of the new certificate is right, and its lines fit.
use Rattle.std.proofs.Common.{◌≡◌, ℕ, zero, suc, ◌+◌, ◌-◌, ◌^◌, ◌<◌, ◌≤◌, List, [], ◌∷◌, ◌++◌, length, map, replicate, refl, sym, ap, subst, arith, Bool, true, false, cond, Option, Some, None, ◌∙◌, append_assoc, append-nil, AllPairs, Contains, inl, inr, ◌⊎◌}
use Rattle.std.specs.Prelude.{◌&&◌, nat_lt}
use Rattle.std.specs.List.{AllByRecursion, list_all, range_with_len}
use Rattle.std.proofs.lemmas.Bool.{lt-ltb, ltb-true}
use Rattle.std.proofs.lemmas.List.{length_push}
use Rattle.std.proofs.lemmas.List.Elements.{Contains-append_cases}
use Rattle.std.proofs.lemmas.List.Folds.{list_all-append}
use Rattle.steno_rules.proofs.Lists.{all_of, in_cons, in_first, in_later, none_in_nil, pairs_cons, pairs_first, pairs_tail}
use Rattle.certificate.specs.declared.lines.CertLine.{CertLine}
use Rattle.certificate.specs.declared.lines.CertLine.TheVariants as of
use Rattle.certificate.specs.CertLines.{fits, is_u32}
use Rattle.certificate.specs.CertTexts.{Listed, Run, onto_runs, runs_of}
use Rattle.certificate_laws.specs.Checks.{Lines, line_at, listed_by, listed_in, rise_above}
use Rattle.certificate_laws.specs.Closures.{Closure}
use Rattle.certificate_laws.specs.Validity.{content_check}
use Rattle.certificate_laws.proofs.HoldLemmas.{both, both_back, list_all_in}
use Rattle.audit_certificate.proofs.ReachedStates.{Rises}
use Rattle.audit_certificate.proofs.ReadBack.{AllFit}
use Rattle.audit_certificate.proofs.RunLemmas.{goes_on, longer_run, runs-have, runs-states, single}
use Rattle.audit_certificate.proofs.UpperHeld.{listed-runs, run_line, runs_held}
use Rattle.cert_upgrade.specs.Forms.{announced_states, form_check, is_announced}
use Rattle.cert_upgrade.proofs.Contents.{AreKnown, above_to, form_listing, heads, listing_form, third_more}
use Rattle.cert_upgrade.proofs.FormAnswers.{listed-push}
use Rattle.cert_upgrade.proofs.RunJoins.{line_of_run}
use Rattle.cert_upgrade.proofs.Shapes.{HasNoConflicts, ListingHolds}

-- ---- the listed states rise

-- two lists of which each rises, and all of the first are before all of the second
pairs_join : (xs ys : List Listed) → AllPairs Rises xs → AllPairs Rises ys → ((x y : Listed) → Contains xs x → Contains ys y → x.state < y.state) → AllPairs Rises (xs ++ ys)
pairs_join [] ys a b across = b
pairs_join (x ∷ xs) ys a b across =
    pairs_cons Rises x (xs ++ ys)
    (all_of (Rises x) (xs ++ ys) (λ y has. first y (Contains-append_cases xs ys y has)))
    (pairs_join xs ys (pairs_tail Rises x xs a) b (λ p q there other. across p q (in_later x xs p there) other))
  where
    first : (y : Listed) → Contains xs y ⊎ Contains ys y → x.state < y.state
    first y (inl there) = pairs_first Rises x xs y a there
    first y (inr other) = across x y (in_first x xs) other

none_rise : AllPairs Rises []
none_rise = λ i j d lt below. absurd (omega (arith, below))

-- a state of a run
from_run : (s n d : ℕ) (y : Listed) → Contains (map (λ state. record { state = state; distance = d }) (range_with_len s n)) y → s ≤ y.state
from_run s zero d y has = absurd (none_in_nil y has)
from_run s (suc n) d y has = elim (in_cons (record { state = s; distance = d }) (map (λ state. record { state = state; distance = d }) (range_with_len (s + 1) n)) y has) [
  | inl same ↦ (let e = ap (λ (x : Listed). x.state) same in omega (arith, e))
  | inr later ↦ (let b = from_run (s + 1) n d y later in omega (arith, b))
]

-- states that follow one another
run_rises : (s n d : ℕ) → AllPairs Rises (map (λ state. record { state = state; distance = d }) (range_with_len s n))
run_rises s zero d = none_rise
run_rises s (suc n) d =
    pairs_cons Rises (record { state = s; distance = d }) (map (λ state. record { state = state; distance = d }) (range_with_len (s + 1) n))
    (all_of (Rises (record { state = s; distance = d })) (map (λ state. record { state = state; distance = d }) (range_with_len (s + 1) n)) (λ y has. let b = from_run (s + 1) n d y has in omega (arith, b)))
    (run_rises (s + 1) n d)

-- a run may be listed: it is behind all that were listed before
run_behind : (all : List Listed) (s n d : ℕ) → AllPairs Rises all → rise_above all (map (λ state. record { state = state; distance = d }) (range_with_len s n)) ≡ true →
    AllPairs Rises (all ++ map (λ state. record { state = state; distance = d }) (range_with_len s n))
run_behind all s zero d rise above = pairs_join all [] rise none_rise (λ x y there none. absurd (none_in_nil y none))
run_behind all s (suc n) d rise above =
    pairs_join all (map (λ state. record { state = state; distance = d }) (range_with_len s (suc n))) rise (run_rises s (suc n) d) (λ x y there has.
    let a = ltb-true x.state s (list_all_in (λ other. nat_lt other.state s) all x above there) in
    let b = from_run s (suc n) d y has in omega (arith, a, b))

-- what a line lists is a run
as_run : (l : Option CertLine) → (s : ℕ) × (n : ℕ) × (d : ℕ) × (listed_by l ≡ map (λ state. record { state = state; distance = d }) (range_with_len s n))
as_run None = (0, 0, 0, refl)
as_run (Some (of.Head v)) = (0, 0, 0, refl)
as_run (Some (of.Entries k)) = (0, 0, 0, refl)
as_run (Some (of.States k)) = (0, 0, 0, refl)
as_run (Some (of.Distance s d)) = (s, 1, d, refl)
as_run (Some (of.Run s t d)) = (s, t + 1 - s, d, refl)
as_run (Some (of.Conflicts k)) = (0, 0, 0, refl)
as_run (Some (of.Row r)) = (0, 0, 0, refl)
as_run (Some of.End) = (0, 0, 0, refl)

line_behind : (all : List Listed) (l : Option CertLine) → AllPairs Rises all → rise_above all (listed_by l) ≡ true → AllPairs Rises (all ++ listed_by l)
line_behind all l rise above =
    let r = as_run l in
    subst (λ xs. AllPairs Rises (all ++ xs)) (sym r.3) (run_behind all r.0 r.1 r.2 rise (subst (λ xs. rise_above all xs ≡ true) r.3 above))

-- The states of a listing whose form holds rise,
listing_rises : (before listing : Lines) → 3 ≤ length before → AllPairs Rises (listed_in before) → ListingHolds form_check before listing → AllPairs Rises (listed_in (before ++ listing))
listing_rises before [] long rise hold = subst (λ ls. AllPairs Rises (listed_in ls)) (sym (append-nil before)) rise
listing_rises before (l ∷ ls) long rise hold =
    let two = both (rise_above (listed_in before) (listed_by l)) (list_all (λ s. is_announced before s.state) (listed_by l)) (sym (form_listing before (length before + 1) l long hold.0) ∙ hold.1) in
    let more = subst (AllPairs Rises) (sym (listed-push before l)) (line_behind (listed_in before) l rise two.0) in
    subst (λ xs. AllPairs Rises (listed_in xs)) (append_assoc before (l ∷ []) ls) (listing_rises (before ++ l ∷ []) ls (let p = length_push before l in omega (arith, long, p)) more hold.2)

-- and are announced.
listing_announced : (k : ℕ) (before listing : Lines) → (3 ≤ length before) × (announced_states (line_at before 3) ≡ k) → ListingHolds form_check before listing → AreKnown (λ n. nat_lt n k) (listed_in listing)
listing_announced k before [] at hold = refl
listing_announced k before (l ∷ ls) at hold =
    let two = both (rise_above (listed_in before) (listed_by l)) (list_all (λ s. is_announced before s.state) (listed_by l)) (sym (form_listing before (length before + 1) l at.0 hold.0) ∙ hold.1) in
    let here = subst (λ n. list_all (λ s. nat_lt s.state n) (listed_by l) ≡ true) at.1 two.1 in
    let rest = listing_announced k (before ++ l ∷ []) ls (third_more k before l at) hold.2 in
    list_all-append (λ s. nat_lt s.state k) (listed_by l) (listed_in ls) ∙ both_back (list_all (λ s. nat_lt s.state k) (listed_by l)) (list_all (λ s. nat_lt s.state k) (listed_in ls)) here rest

-- ---- the new listing

-- a closure with so many entries and numbers of states, each of them one of a state
abbrev form_closure : ℕ → ℕ → Closure
form_closure n k = record { outlines = replicate n []; words = []; count = k; has_state = λ s. nat_lt s k; targets = λ s. []; hit = λ s. None }

pub runs_plain : (runs : List Run) → HasNoConflicts (map run_line runs)
runs_plain [] = tt
runs_plain (r ∷ rs) = (refl, runs_plain rs)

-- The runs list the states of the listing.
pub runs_listed : (listing : Lines) → listed_in (map run_line (runs_of (listed_in listing))) ≡ listed_in listing
runs_listed listing = listed-runs (runs_of (listed_in listing)) ∙ runs-states (listed_in listing)

-- The form of the new listing holds.
pub new_listing : (v n k : ℕ) (listing : Lines) → ListingHolds form_check (heads v n k) listing → ListingHolds form_check (heads 2 n k) (map run_line (runs_of (listed_in listing)))
new_listing v n k listing hold =
    let all : List Listed = listed_in listing in
    let states = runs-states (listed_in listing) in
    let rises : AllPairs Rises (listed_in listing) = listing_rises (heads v n k) listing (omega arith) none_rise hold in
    let known : AreKnown (λ s. nat_lt s k) (listed_in listing) = listing_announced k (heads v n k) listing (omega arith, refl) hold in
    let held = runs_held (form_closure n k) n k [] (runs_of (listed_in listing)) 0 [] (runs-have (listed_in listing)) (subst (AllPairs Rises) (sym states) rises) (subst (AreKnown (λ s. nat_lt s k)) (sym states) known) in
    listing_form (form_closure n k) k (heads 2 n k) (map run_line (runs_of (listed_in listing))) (λ s is. is) (omega arith, refl)
    (above_to (content_check (form_closure n k)) (heads 2 n k) (map run_line (runs_of (listed_in listing))) 0 [] (runs_plain (runs_of (listed_in listing))) held)

-- ---- the new lines fit

-- the state's number and distance have room
abbrev pub has_room : Listed → Bool
has_room s = is_u32 s.state && is_u32 s.distance

three : (a b c : Bool) → a ≡ true → b ≡ true → c ≡ true → (a && b && c) ≡ true
three a b c ea eb ec = rw (ea, eb, ec) refl

onto_fit : (s : Listed) (rs : List Run) → has_room s ≡ true → AllFit (map line_of_run rs) → AllFit (map line_of_run (onto_runs s rs))
onto_fit s [] room have = let two = both (is_u32 s.state) (is_u32 s.distance) room in (three (is_u32 s.state) (is_u32 s.state) (is_u32 s.distance) two.0 two.0 two.1, tt)
onto_fit s (r ∷ rs) room have = by (goes_on s r)
  where
    by : (b : Bool) → AllFit (map line_of_run (cond b (longer_run s r ∷ rs) (single s ∷ r ∷ rs)))
    by true =
        let two = both (is_u32 s.state) (is_u32 s.distance) room in
        let other = both (is_u32 r.first && is_u32 r.last) (is_u32 r.distance) have.0 in
        let last = both (is_u32 r.first) (is_u32 r.last) other.0 in
        (three (is_u32 s.state) (is_u32 r.last) (is_u32 r.distance) two.0 last.1 other.1, have.1)
    by false = let two = both (is_u32 s.state) (is_u32 s.distance) room in (three (is_u32 s.state) (is_u32 s.state) (is_u32 s.distance) two.0 two.0 two.1, have)

-- The runs of states with room fit.
pub runs_fit : (states : List Listed) → list_all has_room states ≡ true → AllFit (map line_of_run (runs_of states))
runs_fit [] room = tt
runs_fit (s ∷ ss) room = let two = both (has_room s) (list_all has_room ss) room in onto_fit s (runs_of ss) two.0 (runs_fit ss two.1)

-- each line of a file that is one fits
abbrev pub LinesFit : Lines → Type 0
LinesFit lines = AllByRecursion (λ o. (l : CertLine) → o ≡ Some l → fits l ≡ true) lines

run_room : (s n d : ℕ) → s + n ≤ 2 ^ 32 → is_u32 d ≡ true → list_all has_room (map (λ state. record { state = state; distance = d }) (range_with_len s n)) ≡ true
run_room s zero d le room = refl
run_room s (suc n) d le room =
    both_back (is_u32 s && is_u32 d) (list_all has_room (map (λ state. record { state = state; distance = d }) (range_with_len (s + 1) n))) (both_back (is_u32 s) (is_u32 d) (lt-ltb s (2 ^ 32) (omega (arith, le))) room) (run_room (s + 1) n d (omega (arith, le)) room)

line_room : (l : Option CertLine) → ((k : CertLine) → l ≡ Some k → fits k ≡ true) → list_all has_room (listed_by l) ≡ true
line_room None fit = refl
line_room (Some (of.Head v)) fit = refl
line_room (Some (of.Entries k)) fit = refl
line_room (Some (of.States k)) fit = refl
line_room (Some (of.Distance s d)) fit = let room = fit (of.Distance s d) refl in both_back (is_u32 s && is_u32 d) true room refl
line_room (Some (of.Run s t d)) fit =
    let room = fit (of.Run s t d) refl in
    let two = both (is_u32 s && is_u32 t) (is_u32 d) room in
    let first = both (is_u32 s) (is_u32 t) two.0 in
    let a = ltb-true s (2 ^ 32) first.0 in
    let b = ltb-true t (2 ^ 32) first.1 in
    run_room s (t + 1 - s) d (omega (arith, a, b)) two.1
line_room (Some (of.Conflicts k)) fit = refl
line_room (Some (of.Row r)) fit = refl
line_room (Some of.End) fit = refl

-- The states of lines that fit have room.
pub listing_room : (listing : Lines) → LinesFit listing → list_all has_room (listed_in listing) ≡ true
listing_room [] fit = refl
listing_room (l ∷ ls) fit = list_all-append has_room (listed_by l) (listed_in ls) ∙ both_back (list_all has_room (listed_by l)) (list_all has_room (listed_in ls)) (line_room l fit.0) (listing_room ls fit.1)
