-- The line that a text is, as a function, and the lines of a file.
--     read_line text      the line whose text this is, if there is one
--     lines_of bytes      the file's lines with their line feeds; the last may lack it
--     read_lines bytes    what each line of the file is
use Rattle.std.specs.Prelude.{ℕ, ◌^◌, ◌-◌, List, [], ◌∷◌, ◌==◌, map, if◌then◌else◌, Option, Some, None, option_map, option_and_then, codes}
use Rattle.std.specs.Str.{bytes_eq}
use Rattle.std.specs.List.{slice_split, onto_first}
use Rattle.text_rules.specs.Decimals.{decimal_value}
use Rattle.certificate.specs.CertLines.{fits}
use Rattle.certificate.specs.declared.lines.CertLine.{CertLine}
use Rattle.certificate.specs.declared.lines.CertLine.TheVariants as of

-- the numbers whose texts these words are
abbrev pub numbers_of : List (List ℕ) → Option (List ℕ)
numbers_of [] = Some []
numbers_of (word ∷ words) = option_and_then (λ n. option_map (λ ns. n ∷ ns) (numbers_of words)) (decimal_value (2 ^ 32 - 1) word)

-- the line of this name with one number
abbrev pub of_one : List ℕ → ℕ → Option CertLine
of_one name n =
    if bytes_eq name (codes "boundary-certificate") then Some (of.Head n)
    else (if bytes_eq name (codes "entries") then Some (of.Entries n)
    else (if bytes_eq name (codes "states") then Some (of.States n)
    else (if bytes_eq name (codes "conflicts") then Some (of.Conflicts n)
    else None)))

-- the line of this name with three numbers and those of words
abbrev pub of_many : List ℕ → ℕ → ℕ → ℕ → List ℕ → Option CertLine
of_many name e j n words = if bytes_eq name (codes "r") then Some (of.Row (record { entry = e; place = j; strokes = n; words = words })) else None

-- the line of this name with these numbers
abbrev pub named : List ℕ → List ℕ → Option CertLine
named name [] = if bytes_eq name (codes "end") then Some of.End else None
named name (n ∷ []) = of_one name n
named name (s ∷ d ∷ []) = if bytes_eq name (codes "d") then Some (of.Distance s d) else None
named name (s ∷ t ∷ d ∷ []) = if bytes_eq name (codes "g") then Some (of.Run s t d) else None
named name (e ∷ j ∷ n ∷ w ∷ ws) = of_many name e j n (w ∷ ws)

-- the line, if its numbers have room
abbrev pub if_fits : CertLine → Option CertLine
if_fits line = if fits line then Some line else None

-- the line whose name is the first word, with the numbers of the others
abbrev pub of_words : List (List ℕ) → Option CertLine
of_words [] = None
of_words (name ∷ words) = option_and_then if_fits (option_and_then (named name) (numbers_of words))

-- of the parts between line feeds: words, and nothing after the line feed
abbrev pub of_body : List (List ℕ) → Option CertLine
of_body (body ∷ [] ∷ []) = of_words (slice_split (λ c. c == 32) body)
of_body parts = None

-- the line whose text this is, if there is one
abbrev pub read_line : List ℕ → Option CertLine
read_line text = of_body (slice_split (λ c. c == 10) text)

-- the lines of a file; the last may lack its line feed
abbrev pub lines_of : List ℕ → List (List ℕ)
lines_of [] = []
lines_of (c ∷ cs) = if c == 10 then ((c ∷ []) ∷ lines_of cs) else onto_first c (lines_of cs)

-- what each line of a file is
abbrev pub read_lines : List ℕ → List (Option CertLine)
read_lines bytes = map read_line (lines_of bytes)
