-- Listed states with the numbers of their lines.
use Rattle.std.specs.Prelude.{ℕ}
use Rattle.certificate.specs.CertTexts.{Listed}

-- the state of one that is listed on a line
abbrev pub state_on_line : ℕ × Listed → Listed
state_on_line x = x.1
