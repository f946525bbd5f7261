-- Histories of calls on a table, and the settled words that they leave.
--     relax_call, look_call ..            the two kinds of call
--     opening_words origin count          the settled words before the first call
--     words_after_call words c            the settled words after one call
--     replayed_words words calls             the settled words after all the calls, one after the other
--     AreReplies words calls              each call replied the settled word as it was at its turn
--     IsLegal origin lists calls          the same, from the opening settled words on
--     calls_by pass calls                 the calls of one pass, in their order
--     longer_history xs ys                the longer of two
--     ExtendsHistory origin lists seen c now     what was seen goes on, and ends with this call
use Rattle.std.specs.Prelude.{◌≡◌, ℕ, ◌==◌, nat_lt, min, Bool, true, false, cond, List, [], ◌∷◌, ◌++◌, length, replicate, slice_index, slice_set}
use Rattle.graph_rules.specs.Graphs.{unreached}
use Rattle.dist_table.specs.declared.call.Call.{Call}

abbrev pub call : ℕ → Bool → ℕ → ℕ → ℕ → Call
call pass relax state value reply =
    record { pass = pass; relax = relax; state = state; value = value; reply = reply }

abbrev pub relax_call : ℕ → ℕ → ℕ → ℕ → Call
relax_call pass target value reply = call pass true target value reply

-- a look puts nothing, so it has the value 0
abbrev pub look_call : ℕ → ℕ → ℕ → Call
look_call pass state reply = call pass false state 0 reply

-- only the start was found
abbrev pub opening_words : ℕ → ℕ → List ℕ
opening_words origin count = slice_set (replicate count unreached) origin 0

-- a relax puts the lesser of the settled word and its value, a look puts nothing
abbrev pub words_after_call : List ℕ → Call → List ℕ
words_after_call words c =
    cond c.relax (slice_set words c.state (min (slice_index words c.state) c.value)) words

abbrev pub replayed_words : List ℕ → List Call → List ℕ
replayed_words words [] = words
replayed_words words (c ∷ calls) = replayed_words (words_after_call words c) calls

abbrev pub AreReplies : List ℕ → List Call → Type 0
AreReplies words [] = Unit {0}
AreReplies words (c ∷ calls) =
    (c.reply ≡ slice_index words c.state) × AreReplies (words_after_call words c) calls

abbrev pub IsLegal : ℕ → List (List ℕ) → List Call → Type 0
IsLegal origin lists calls = AreReplies (opening_words origin (length lists)) calls

abbrev pub calls_by : ℕ → List Call → List Call
calls_by pass [] = []
calls_by pass (c ∷ calls) = cond (c.pass == pass) (c ∷ calls_by pass calls) (calls_by pass calls)

abbrev pub longer_history : List Call → List Call → List Call
longer_history xs ys = cond (nat_lt (length xs) (length ys)) ys xs

-- calls of other passes may lie between; of the calls of the pass that made it, this one alone is new
pub record ExtendsHistory (origin : ℕ) (lists : List (List ℕ)) (seen : List Call) (c : Call) (now : List Call)
    : Type 0 where
  pub between : List Call
  pub ends : now ≡ (seen ++ between) ++ c ∷ []
  pub legal : IsLegal origin lists now
  pub own : calls_by c.pass now ≡ calls_by c.pass seen ++ c ∷ []
