-- Numbers with a space before each are the words of a line behind its name.
use Rattle.std.proofs.Common.{◌≡◌, ℕ, List, [], ◌∷◌, ◌++◌, map, flat_map, refl, sym, ap, ◌∙◌, append_assoc, append-nil}
use Rattle.std.specs.Prelude.{decimal, codes}
use Rattle.std.specs.List.{join_with_byte}
use Rattle.text_rules.specs.Lines.{line}
use Rattle.longest_match.specs.Rows.{Row}
use Rattle.certificate.specs.CertLines.{line_text}
use Rattle.certificate.specs.declared.lines.CertLine.TheVariants as of

-- each number with a space before it
abbrev pub spaced : List ℕ → List ℕ
spaced ns = flat_map (λ n. 32 ∷ decimal n) ns

-- words with spaces between them
pub joined : (name ns : List ℕ) → join_with_byte 32 (name ∷ map decimal ns) ≡ name ++ spaced ns
joined name [] = sym (append-nil name)
joined name (n ∷ ns) = ap (λ t. name ++ 32 ∷ t) (joined (decimal n) ns)

-- a name, numbers and a line feed
pub named_text : (text name ns : List ℕ) → text ++ name ++ spaced ns ++ 10 ∷ [] ≡ text ++ line (name ∷ map decimal ns)
named_text text name ns =
    ap (λ t. t ++ 10 ∷ []) (append_assoc text name (spaced ns))
    ∙ append_assoc text (name ++ spaced ns) (10 ∷ [])
    ∙ ap (λ t. text ++ (t ++ 10 ∷ [])) (sym (joined name ns))

-- the name, the three numbers and the words of a row
pub row_text : (text : List ℕ) (r : Row) →
    text ++ 114 ∷ [] ++ spaced (r.entry ∷ r.place ∷ r.strokes ∷ []) ++ spaced r.words ++ 10 ∷ [] ≡ text ++ line_text (of.Row r)
row_text text r =
    ap (λ t. t ++ 10 ∷ []) (append_assoc (text ++ 114 ∷ []) (spaced (r.entry ∷ r.place ∷ r.strokes ∷ [])) (spaced r.words) ∙ ap (λ t. text ++ 114 ∷ [] ++ t) (three (decimal r.entry) (decimal r.place) (decimal r.strokes)))
    ∙ named_text text (codes "r") (r.entry ∷ r.place ∷ r.strokes ∷ r.words)
  where
    three : (a b c : List ℕ) → 32 ∷ a ++ (32 ∷ b ++ (32 ∷ c ++ [])) ++ spaced r.words ≡ 32 ∷ a ++ (32 ∷ b ++ (32 ∷ c ++ spaced r.words))
    three a b c = simp (append_assoc) refl
