-- The nodes are the only rising list of the beginnings of entries.
use Rattle.std.proofs.Common.{◌≡◌, List, [], ℕ, ap, ◌↔◌, true, Contains, Some, slice_get}
use Rattle.std.specs.Cmp.Lexicographic.{nat_list_cmp_total}
use Rattle.steno_rules.specs.Outlines.{outline_cmp, AreRising}
use Rattle.steno_rules.specs.Windows.{is_prefix}
use Rattle.steno_rules.specs.Nodes.{nodes}
use Rattle.steno_rules.proofs.Rising.{rising_same}
use Rattle.steno_rules.proofs.NodeLemmas.{nodes-rising, nodes-Contains, nodes-first}

-- Another rising list of them is the same.
pub nodes-only : (entries others : List (List ℕ)) → AreRising others → ((x : List ℕ) → Contains others x ↔ (is_prefix entries x ≡ true)) → others ≡ nodes entries
nodes-only entries others rising same =
    rising_same outline_cmp nat_list_cmp_total others (nodes entries) rising (nodes-rising entries) (λ z. (λ h. (nodes-Contains entries z).1 ((same z).0 h), λ h. (same z).1 ((nodes-Contains entries z).0 h)))

-- The root has the number 0.
pub nodes-root : (entries : List (List ℕ)) → slice_get (nodes entries) 0 ≡ Some []
nodes-root entries = ap (λ l. slice_get l 0) (nodes-first entries).1
