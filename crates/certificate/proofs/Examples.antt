-- Lines and certificates that are read and written by definition.
use Rattle.std.proofs.Common.{◌≡◌, refl}
use Rattle.std.specs.Prelude.{ℕ, List, [], ◌∷◌, Some, None, codes, length, take}
use Rattle.std.specs.Fmt.{digits}
use Rattle.longest_match.specs.Rows.{Row}
use Rattle.certificate.specs.CertLines.{line_text}
use Rattle.certificate.specs.declared.lines.CertLine.TheVariants as of
use Rattle.certificate.specs.CertReading.{read_line, read_lines, lines_of}
use Rattle.certificate.specs.CertTexts.{Listed, certificate_text}

-- the certificate of the entries S, S/T, T/K/P, W and P/W, in version 1
abbrev pub version_1 : List ℕ
version_1 = codes "boundary-certificate 1\nentries 5\nstates 54\nd 0 0\nd 1 1\nd 2 1\nd 4 1\nd 5 2\nd 6 2\nd 10 2\nd 12 2\nd 14 1\nd 19 2\nd 20 3\nd 25 3\nd 32 3\nd 38 4\nd 39 1\nd 41 4\nd 42 2\nd 47 2\nd 48 5\nd 50 1\nd 53 1\nconflicts 1\nr 3 1 5 0 2 4\nend\n"

-- the same in version 2
abbrev pub version_2 : List ℕ
version_2 = codes "boundary-certificate 2\nentries 5\nstates 54\ng 0 0 0\ng 1 2 1\ng 4 4 1\ng 5 6 2\ng 10 10 2\ng 12 12 2\ng 14 14 1\ng 19 19 2\ng 20 20 3\ng 25 25 3\ng 32 32 3\ng 38 38 4\ng 39 39 1\ng 41 41 4\ng 42 42 2\ng 47 47 2\ng 48 48 5\ng 50 50 1\ng 53 53 1\nconflicts 1\nr 3 1 5 0 2 4\nend\n"

-- its listed states with their distances
abbrev pub the_listed : List Listed
the_listed = record { state = 0; distance = 0 } ∷ record { state = 1; distance = 1 } ∷ record { state = 2; distance = 1 } ∷ record { state = 4; distance = 1 } ∷ record { state = 5; distance = 2 } ∷ record { state = 6; distance = 2 } ∷ record { state = 10; distance = 2 } ∷ record { state = 12; distance = 2 } ∷ record { state = 14; distance = 1 } ∷ record { state = 19; distance = 2 } ∷ record { state = 20; distance = 3 } ∷ record { state = 25; distance = 3 } ∷ record { state = 32; distance = 3 } ∷ record { state = 38; distance = 4 } ∷ record { state = 39; distance = 1 } ∷ record { state = 41; distance = 4 } ∷ record { state = 42; distance = 2 } ∷ record { state = 47; distance = 2 } ∷ record { state = 48; distance = 5 } ∷ record { state = 50; distance = 1 } ∷ record { state = 53; distance = 1 } ∷ []

-- its one conflict
abbrev pub the_row : Row
the_row = record { entry = 3; place = 1; strokes = 5; words = 0 ∷ 2 ∷ 4 ∷ [] }

lines_27 : length (lines_of version_1) ≡ 27
lines_27 = refl

lines_25 : length (lines_of version_2) ≡ 25
lines_25 = refl

written_2 : certificate_text 5 54 the_listed (the_row ∷ []) ≡ version_2
unfolding digits
written_2 = refl

row_read : read_line (codes "r 3 1 5 0 2 4\n") ≡ Some (of.Row the_row)
row_read = refl

row_written : line_text (of.Row the_row) ≡ codes "r 3 1 5 0 2 4\n"
unfolding digits
row_written = refl

run_read : read_line (codes "g 5 6 2\n") ≡ Some (of.Run 5 6 2)
run_read = refl

end_read : read_line (codes "end\n") ≡ Some of.End
end_read = refl

end_open : read_line (codes "end") ≡ None
end_open = refl

zero_first : read_line (codes "d 1 01\n") ≡ None
zero_first = refl

two_spaces : read_line (codes "d 1  1\n") ≡ None
two_spaces = refl

no_words : read_line (codes "r 3 1 5\n") ≡ None
no_words = refl

far_place : read_line (codes "r 3 256 5 0\n") ≡ None
far_place = refl

large : read_line (codes "states 4294967296\n") ≡ None
large = refl

largest : read_line (codes "states 4294967295\n") ≡ Some (of.States 4294967295)
largest = refl

begins : take 4 (read_lines version_1) ≡ Some (of.Head 1) ∷ Some (of.Entries 5) ∷ Some (of.States 54) ∷ Some (of.Distance 0 0) ∷ []
begins = refl

two_lines : read_line (codes "end\nend\n") ≡ None
two_lines = refl
