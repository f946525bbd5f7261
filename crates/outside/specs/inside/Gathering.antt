-- What is gathered before the system is given it.
use Rattle.std.specs.Prelude.{ℕ}

-- how many bytes the system is given at once
abbrev pub gathered_size : ℕ
gathered_size = 65536
