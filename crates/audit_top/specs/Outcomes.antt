-- What a run may be expected to produce, what it depends on, and the order of refusals.
--     prints status text          a text, and no file
--     refused refusal             the line of a refusal
--     OverStack limit Follows     the refusals of dictionaries in their order, and what follows where there is none
use Rattle.std.specs.Prelude.{ℕ, ◌≡◌, List, length, Option, Some, None}
use Rattle.steno_rules.specs.Nodes.{nodes}
use Rattle.steno_rules.specs.StateNumbers.{number_count}
use Rattle.dict_stack.specs.Stacks.{StackView}
use Rattle.dict_files.specs.Refusals.{dictionaries_refusal, first_of, if_over, stack_from}
use Rattle.state_numbering.specs.Causes.{most_states}
use Rattle.outline_trie.specs.declared.trie.TheConstants.Trie.{MAX_NODES}
use Rattle.report.specs.Refusals.{RefusalView, refusal_text, too_many_nodes, too_many_states}
use Rattle.audit_top.specs.Statuses.{refusal_status}
use Rattle.audit_top.specs.declared.status.Status.{Status}

-- a file's name, and the bytes that it has afterwards
pub record Written : Type 0 where
  pub name : List ℕ
  pub bytes : List ℕ

pub record Expected : Type 0 where
  pub status : Status
  pub text : List ℕ
  pub file : Option Written

-- what a run depends on besides its arguments: the bytes of each dictionary, in the order of the arguments, and those of the one
-- more file that it reads, where they are known
pub record Inputs : Type 0 where
  pub dictionaries : List (List ℕ)
  pub file : Option (List ℕ)

-- a text, and no file
abbrev pub prints : Status → List ℕ → Expected
prints status text = record { status = status; text = text; file = None }

-- the line of a refusal
abbrev pub refused : RefusalView → Expected
refused refusal = prints (refusal_status refusal) (refusal_text refusal)

-- ---- the order of refusals

-- what follows, unless there is a refusal
abbrev pub UnlessRefused : Option RefusalView → (Expected → Type 0) → Expected → Type 0
UnlessRefused (Some refusal) Follows result = result ≡ refused refusal
UnlessRefused None Follows result = Follows result

-- the dictionaries of these arguments are refused: too many of them, the first refused file, too many entries; or their stack is
-- over a limit of the command; or else this follows over the stack
abbrev pub OverStack : (StackView → Option RefusalView) → (StackView → Expected → Type 0)
    → List (List ℕ) → List (List ℕ) → Expected → Type 0
OverStack limit Follows args contents =
    let stack = stack_from args contents in
    UnlessRefused (first_of (dictionaries_refusal args contents) (limit stack)) (Follows stack)

-- the limit of a command that translates
abbrev pub trie_limit : StackView → Option RefusalView
trie_limit stack = if_over MAX_NODES too_many_nodes (length (nodes stack.outlines))

-- the limits of a command that searches
abbrev pub search_limit : StackView → Option RefusalView
search_limit stack =
    first_of (trie_limit stack) (if_over most_states too_many_states (number_count stack.outlines))
