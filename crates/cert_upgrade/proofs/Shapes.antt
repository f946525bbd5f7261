-- The shape of a certificate whose form is right.
use Rattle.std.proofs.Common.{◌≡◌, ℕ, zero, suc, ◌+◌, ◌-◌, ◌≤◌, List, [], ◌∷◌, ◌++◌, length, map, take, refl, sym, ap, subst, arith, Bool, true, false, cond, true≢false, Option, Some, None, ◌∙◌, append_assoc, append-nil}
use Rattle.std.specs.Prelude.{not, nat_le, ⊤}
use Rattle.std.specs.List.{AllByRecursion, cons_option, position_or_len}
use Rattle.std.proofs.Math.Seq.{take-append_seam}
use Rattle.std.proofs.lemmas.Bool.{le-leb, leb-true}
use Rattle.std.proofs.lemmas.List.{length_push, length-append}
use Rattle.longest_match.specs.Rows.{Row}
use Rattle.certificate.specs.declared.lines.CertLine.{CertLine}
use Rattle.certificate.specs.declared.lines.CertLine.TheVariants as of
use Rattle.certificate.specs.CertTexts.{certificate_lines}
use Rattle.certificate_laws.specs.Checks.{ContentCheck, Lines, announced, certificate_rows, conflicts_line, end_checks, is_conflicts, line_at, listed_in, may_follow, row_of_line, upper_lines}
use Rattle.certificate_laws.specs.inside.Holding.{AllHold}
use Rattle.certificate_laws.proofs.UpperLemmas.{first_of, line_after, upper_from}
use Rattle.cert_check.proofs.AnswerLemmas.{due_conflicts}
use Rattle.cert_check.proofs.StageLemmas.{no_line_due}
use Rattle.certificate_laws.proofs.RowLemmas.{no_row, row_of, end_of}
use Rattle.cert_upgrade.specs.Forms.{announced_entries, announced_states, row_forms}
use Rattle.cert_upgrade.specs.Upgrades.{upgraded_lines}
use Rattle.cert_upgrade.specs.inside.Stages.{row_read}
use Rattle.cert_upgrade.specs.inside.Uppers.{new_upper}

-- ---- rows among lines

pub rows-append : (xs ys : Lines) → certificate_rows (xs ++ ys) ≡ certificate_rows xs ++ certificate_rows ys
rows-append [] ys = refl
rows-append (x ∷ xs) ys = by (row_of_line x) (rows-append xs ys)
  where
    by : (o : Option Row) → certificate_rows (xs ++ ys) ≡ certificate_rows xs ++ certificate_rows ys → cons_option o (certificate_rows (xs ++ ys)) ≡ cons_option o (certificate_rows xs) ++ certificate_rows ys
    by None e = e
    by (Some r) e = ap (λ rs. r ∷ rs) e

pub rows-read : (rows : List Row) (rest : Lines) → certificate_rows (map row_read rows ++ rest) ≡ rows ++ certificate_rows rest
rows-read [] rest = refl
rows-read (r ∷ rs) rest = ap (λ xs. r ∷ xs) (rows-read rs rest)

-- ---- the whole

-- the lines behind those above the conflicts
abbrev pub below : ℕ → List Row → Lines
below n rows = Some (of.Conflicts n) ∷ (map row_read rows ++ Some of.End ∷ [])

-- these lines of a certificate are above its conflicts, and these rows below
pub record IsShaped (lines upper : Lines) (n : ℕ) (rows : List Row) : Type 0 where
  pub split : lines ≡ upper ++ below n rows
  pub at : conflicts_line lines ≡ length upper + 1
  pub long : 3 ≤ length upper
  pub none : certificate_rows upper ≡ []
  pub number : length rows ≡ n

pub upper-shaped : (lines upper : Lines) (n : ℕ) (rows : List Row) → IsShaped lines upper n rows → upper_lines lines ≡ upper
upper-shaped lines upper n rows h =
    let less : length upper + 1 - 1 ≡ length upper = omega arith in
    ap (λ k. take (k - 1) lines) h.at ∙ (ap (λ k. take k lines) less ∙ (ap (take (length upper)) h.split ∙ take-append_seam upper (below n rows)))

pub announced-shaped : (lines upper : Lines) (n : ℕ) (rows : List Row) → IsShaped lines upper n rows → announced (line_at lines (conflicts_line lines)) ≡ n
announced-shaped lines upper n rows h = ap (λ k. announced (line_at lines k)) h.at ∙ (ap (λ ls. announced (line_at ls (length upper + 1))) h.split ∙ ap announced (line_after upper (below n rows)))

pub rows-shaped : (lines upper : Lines) (n : ℕ) (rows : List Row) → IsShaped lines upper n rows → certificate_rows lines ≡ rows
rows-shaped lines upper n rows h =
    ap certificate_rows h.split
    ∙ (rows-append upper (below n rows)
    ∙ (ap (λ xs. xs ++ certificate_rows (below n rows)) h.none ∙ (rows-read rows (Some of.End ∷ []) ∙ append-nil rows)))

-- The lines of the new certificate are those made of the lines above the conflicts, and the same ones below.
pub upgraded-shaped : (lines upper : Lines) (n : ℕ) (rows : List Row) → IsShaped lines upper n rows → (new_upper upper ++ of.Conflicts n ∷ map (λ r. of.Row r) rows) ++ of.End ∷ [] ≡ upgraded_lines lines
upgraded-shaped lines [] n rows h = absurd (let l = h.long in omega (arith, l))
upgraded-shaped lines (a ∷ []) n rows h = absurd (let l = h.long in omega (arith, l))
upgraded-shaped lines (a ∷ b ∷ []) n rows h = absurd (let l = h.long in omega (arith, l))
upgraded-shaped lines (a ∷ b ∷ c ∷ ls) n rows h =
    let upper : Lines = a ∷ b ∷ c ∷ ls in
    let second : announced_entries b ≡ announced_entries (line_at lines 2) = sym (ap (λ k. announced_entries (line_at k 2)) h.split) in
    let third : announced_states c ≡ announced_states (line_at lines 3) = sym (ap (λ k. announced_states (line_at k 3)) h.split) in
    ap (λ k. (new_upper upper ++ of.Conflicts k ∷ map (λ r. of.Row r) rows) ++ of.End ∷ []) (sym h.number)
    ∙ (ap (λ k. certificate_lines k (announced_states c) (listed_in upper) rows) second
    ∙ (ap (λ k. certificate_lines (announced_entries (line_at lines 2)) k (listed_in upper) rows) third
    ∙ (ap (λ u. certificate_lines (announced_entries (line_at lines 2)) (announced_states (line_at lines 3)) (listed_in u) rows) (sym (upper-shaped lines upper n rows h))
    ∙ ap (certificate_lines (announced_entries (line_at lines 2)) (announced_states (line_at lines 3)) (listed_in (upper_lines lines))) (sym (rows-shaped lines upper n rows h)))))

-- ---- from checks to the shape

-- what is said of each line of a listing holds
abbrev pub ListingHolds : ContentCheck → Lines → Lines → Type 0
ListingHolds content before [] = ⊤
ListingHolds content before (l ∷ ls) = (may_follow before l ≡ true) × ((content before (length before + 1) l).holds ≡ true) × ListingHolds content (before ++ l ∷ []) ls

-- none of the lines announces conflicts
abbrev pub HasNoConflicts : Lines → Type 0
HasNoConflicts lines = AllByRecursion (λ l. is_conflicts l ≡ false) lines

-- these lines are above the first conflicts line, with what is said of them
pub record IsAbove (content : ContentCheck) (before ahead : Lines) : Type 0 where
  pub listing : Lines
  pub n : ℕ
  pub rest : Lines
  pub split : ahead ≡ listing ++ Some (of.Conflicts n) ∷ rest
  pub plain : HasNoConflicts listing
  pub hold : ListingHolds content before listing
  pub long : 3 ≤ length before + length listing
  pub content_holds : (content (before ++ listing) (length (before ++ listing) + 1) (Some (of.Conflicts n))).holds ≡ true

conflicts_of : (l : Option CertLine) → is_conflicts l ≡ true → (n : ℕ) × (l ≡ Some (of.Conflicts n))
conflicts_of None e = absurd (true≢false (sym e))
conflicts_of (Some (of.Head v)) e = absurd (true≢false (sym e))
conflicts_of (Some (of.Entries k)) e = absurd (true≢false (sym e))
conflicts_of (Some (of.States k)) e = absurd (true≢false (sym e))
conflicts_of (Some (of.Distance s d)) e = absurd (true≢false (sym e))
conflicts_of (Some (of.Run s t d)) e = absurd (true≢false (sym e))
conflicts_of (Some (of.Conflicts k)) e = (k, refl)
conflicts_of (Some (of.Row r)) e = absurd (true≢false (sym e))
conflicts_of (Some of.End) e = absurd (true≢false (sym e))

-- Where the checks down to the conflicts hold.
pub above_of : (content : ContentCheck) (before ahead : Lines) → AllHold (upper_from content before ahead) → IsAbove content before ahead
above_of content before [] h = absurd (true≢false (sym h.0 ∙ no_line_due before))
above_of content before (l ∷ ls) h = by (is_conflicts l) refl h.1.1 (above_of content (before ++ l ∷ []) ls)
  where
    by : (b : Bool) → is_conflicts l ≡ b → AllHold (cond b [] (upper_from content (before ++ l ∷ []) ls)) → (AllHold (upper_from content (before ++ l ∷ []) ls) → IsAbove content (before ++ l ∷ []) ls) → IsAbove content before (l ∷ ls)
    by true is rest rec =
        let c = conflicts_of l is in
        let due : nat_le 3 (length before) ≡ true = sym (due_conflicts before (length before) c.0) ∙ (ap (may_follow before) (sym c.1) ∙ h.0) in
        record {
          listing = [];
          n = c.0;
          rest = ls;
          split = ap (λ x. x ∷ ls) c.1;
          plain = tt;
          hold = tt;
          long = (let le = leb-true 3 (length before) due in omega (arith, le));
          content_holds = subst (λ b. (content b (length b + 1) (Some (of.Conflicts c.0))).holds ≡ true) (sym (append-nil before)) (subst (λ x. (content before (length before + 1) x).holds ≡ true) c.1 h.1.0);
        }
    by false is rest rec =
        let r = rec rest in
        let joined : (before ++ l ∷ []) ++ r.listing ≡ before ++ l ∷ r.listing = append_assoc before (l ∷ []) r.listing in
        record {
          listing = l ∷ r.listing;
          n = r.n;
          rest = r.rest;
          split = ap (λ xs. l ∷ xs) r.split;
          plain = (is, r.plain);
          hold = (h.0, h.1.0, r.hold);
          long = (let le = r.long in let p = length_push before l in omega (arith, le, p));
          content_holds = subst (λ b. (content b (length b + 1) (Some (of.Conflicts r.n))).holds ≡ true) joined r.content_holds;
        }

-- And back.
pub above_back : (content : ContentCheck) (before listing : Lines) (n : ℕ) (rest : Lines) → HasNoConflicts listing → ListingHolds content before listing → 3 ≤ length before + length listing →
    (content (before ++ listing) (length (before ++ listing) + 1) (Some (of.Conflicts n))).holds ≡ true → AllHold (upper_from content before (listing ++ Some (of.Conflicts n) ∷ rest))
above_back content before [] n rest plain hold long said =
    let due : may_follow before (Some (of.Conflicts n)) ≡ true = due_conflicts before (length before) n ∙ le-leb 3 (length before) (omega (arith, long)) in
    (due, (subst (λ b. (content b (length b + 1) (Some (of.Conflicts n))).holds ≡ true) (append-nil before) said, tt))
above_back content before (l ∷ ls) n rest plain hold long said =
    let rec = above_back content (before ++ l ∷ []) ls n rest plain.1 hold.2 (let p = length_push before l in omega (arith, long, p)) (subst (λ b. (content b (length b + 1) (Some (of.Conflicts n))).holds ≡ true) (sym (append_assoc before (l ∷ []) ls)) said) in
    (hold.0, (hold.1, subst (λ b. AllHold (cond b [] (upper_from content (before ++ l ∷ []) (ls ++ Some (of.Conflicts n) ∷ rest)))) (sym plain.0) rec))

-- Where the conflicts line is.
pub position_plain : (listing : Lines) (n : ℕ) (rest : Lines) → HasNoConflicts listing → position_or_len is_conflicts (listing ++ Some (of.Conflicts n) ∷ rest) ≡ length listing
position_plain [] n rest plain = refl
position_plain (l ∷ ls) n rest plain =
    ap (λ b. cond (not b) (1 + position_or_len is_conflicts (ls ++ Some (of.Conflicts n) ∷ rest)) 0) plain.0
    ∙ (ap (λ k. 1 + k) (position_plain ls n rest plain.1) ∙ (let e : 1 + length ls ≡ suc (length ls) = omega arith in e))

-- No line of a listing is a row.
pub listing_rows : (content : ContentCheck) (before listing : Lines) → ListingHolds content before listing → certificate_rows listing ≡ []
listing_rows content before [] hold = refl
listing_rows content before (l ∷ ls) hold = ap (λ o. cons_option o (certificate_rows ls)) (no_row before l hold.0) ∙ listing_rows content (before ++ l ∷ []) ls hold.2

-- ---- the rows

-- a first line that is there
first_there : (back : Lines) (l : CertLine) → first_of back ≡ Some l → (ls : Lines) × (back ≡ Some l ∷ ls)
first_there [] l e = absurd (true≢false cc)
first_there (x ∷ ls) l e = (ls, ap (λ y. y ∷ ls) e)

no_lines : (ls : Lines) → length ls ≡ 0 → ls ≡ []
no_lines [] e = refl
no_lines (l ∷ ls) e = absurd (omega (arith, e))

end_shape : (front back : Lines) → AllHold (end_checks (front ++ back) (length front)) → back ≡ Some of.End ∷ []
end_shape front back h =
    let at = line_after front back in
    let f = first_there back of.End (sym at ∙ end_of (line_at (front ++ back) (length front + 1)) h.0) in
    let short = leb-true (length (front ++ back)) (length front + 1) h.1.0 in
    let long = length-append front back in
    let more = ap length f.1 in
    f.1 ∙ ap (λ ls. Some of.End ∷ ls) (no_lines f.0 (omega (arith, short, long, more)))

-- Where the checks below the conflicts hold there are rows and the end.
pub rows_shape : (front back : Lines) (n : ℕ) → AllHold (row_forms (front ++ back) (length front) n) → AllHold (end_checks (front ++ back) (length front + n)) →
    (rows : List Row) × (length rows ≡ n) × (back ≡ map row_read rows ++ Some of.End ∷ [])
rows_shape front back zero rows end =
    let same : length front + 0 ≡ length front = omega arith in
    ([], refl, end_shape front back (subst (λ k. AllHold (end_checks (front ++ back) k)) same end))
rows_shape front back (suc n) rows end =
    let at = line_after front back in
    let r = row_of (line_at (front ++ back) (length front + 1)) rows.0 in
    let f = first_there back (of.Row r.0) (sym at ∙ r.1) in
    let whole : front ++ back ≡ (front ++ Some (of.Row r.0) ∷ []) ++ f.0 = ap (λ b. front ++ b) f.1 ∙ sym (append_assoc front (Some (of.Row r.0) ∷ []) f.0) in
    let more : length front + 1 ≡ length (front ++ Some (of.Row r.0) ∷ []) = sym (length_push front (Some (of.Row r.0))) in
    let shift : length front + suc n ≡ length front + 1 + n = omega arith in
    let rows_on = subst (λ k. AllHold (row_forms ((front ++ Some (of.Row r.0) ∷ []) ++ f.0) k n)) more (subst (λ ls. AllHold (row_forms ls (length front + 1) n)) whole rows.1) in
    let end_on = subst (λ k. AllHold (end_checks ((front ++ Some (of.Row r.0) ∷ []) ++ f.0) (k + n))) more (subst (λ ls. AllHold (end_checks ls (length front + 1 + n))) whole (subst (λ k. AllHold (end_checks (front ++ back) k)) shift end)) in
    let rec = rows_shape (front ++ Some (of.Row r.0) ∷ []) f.0 n rows_on end_on in
    let longer : length (r.0 ∷ rec.0) ≡ suc n = ap suc rec.1 in
    (r.0 ∷ rec.0, longer, f.1 ∙ ap (λ ls. Some (of.Row r.0) ∷ ls) rec.2)
