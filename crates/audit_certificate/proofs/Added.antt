-- Bytes that are added one after another to the file that is being written.
use Rattle.std.proofs.Common.{◌≡◌, ℕ, ◌+◌, List, [], ◌++◌, length, take, refl, sym, subst, arith, Option, Some, None, append-nil, IfSome}
use Rattle.std.proofs.Math.Seq.{take-append-add, take-length}
use Rattle.std.proofs.lemmas.List.{take-append-le, length-append}
use Rattle.outside.specs.Files.{Both, Extends, ExtendsByPrefix, FilesView, Held}
use Rattle.outside.proofs.Extended.{Both-Extends-append}
use Rattle.certificate.specs.Writers.{AddsBytes, AddsPrefix}

still_same : (held : Option Held) (name : List ℕ) → Both (Extends name []) held held
still_same None name = tt
still_same (Some h) name = record { here = sym (append-nil (h name)); others = λ other ne. refl }

-- Nothing is added where the files stay.
pub adds_none : (old new : FilesView) → new.held ≡ old.held → AddsBytes [] old new
adds_none old new same = by old.writing
  where
    by : (writing : Option (List ℕ)) → IfSome writing (λ name. Both (Extends name []) old.held new.held)
    by None = tt
    by (Some name) = subst (λ held. Both (Extends name []) old.held held) (sym same) (still_same old.held name)

-- what is said of the name that is being written holds after a call that leaves it
same_name : (a b : Option (List ℕ)) (P : List ℕ → Type 0) → b ≡ a → IfSome b P → IfSome a P
same_name a b P e h = subst (λ o. IfSome o P) e h

one_name : (writing : Option (List ℕ)) (P Q : List ℕ → Type 0) → ((name : List ℕ) → P name → Q name) → IfSome writing P → IfSome writing Q
one_name None P Q f p = tt
one_name (Some name) P Q f p = f name p

join_names : (writing : Option (List ℕ)) (P Q R : List ℕ → Type 0) → ((name : List ℕ) → P name → Q name → R name) → IfSome writing P → IfSome writing Q → IfSome writing R
join_names None P Q R f p q = tt
join_names (Some name) P Q R f p q = f name p q

-- Bytes are added behind others,
pub adds_then : (xs ys : List ℕ) (old mid new : FilesView) → mid.writing ≡ old.writing → AddsBytes xs old mid → AddsBytes ys mid new → AddsBytes (xs ++ ys) old new
adds_then xs ys old mid new same a b =
    join_names old.writing (λ name. Both (Extends name xs) old.held mid.held) (λ name. Both (Extends name ys) mid.held new.held) (λ name. Both (Extends name (xs ++ ys)) old.held new.held)
    (λ name p q. Both-Extends-append name xs ys old.held mid.held new.held p q) a (same_name old.writing mid.writing (λ name. Both (Extends name ys) mid.held new.held) same b)

join_prefix : (name xs ys : List ℕ) (first mid last : Option Held) → Both (Extends name xs) first mid → ExtendsByPrefix name ys mid last → ExtendsByPrefix name (xs ++ ys) first last
join_prefix name xs ys first mid last a b =
    let long = length-append xs ys in let less = b.1 in
    (length xs + b.0, omega (arith, long, less), subst (λ text. Both (Extends name text) first last) (sym (take-append-add xs ys b.0)) (Both-Extends-append name xs (take b.0 ys) first mid last a b.2))

-- or a prefix of them,
pub prefix_then : (xs ys : List ℕ) (old mid new : FilesView) → mid.writing ≡ old.writing → AddsBytes xs old mid → AddsPrefix ys mid new → AddsPrefix (xs ++ ys) old new
prefix_then xs ys old mid new same a b =
    join_names old.writing (λ name. Both (Extends name xs) old.held mid.held) (λ name. ExtendsByPrefix name ys mid.held new.held) (λ name. ExtendsByPrefix name (xs ++ ys) old.held new.held)
    (λ name p q. join_prefix name xs ys old.held mid.held new.held p q) a (same_name old.writing mid.writing (λ name. ExtendsByPrefix name ys mid.held new.held) same b)

longer_prefix : (name xs ys : List ℕ) (first last : Option Held) → ExtendsByPrefix name xs first last → ExtendsByPrefix name (xs ++ ys) first last
longer_prefix name xs ys first last b =
    let long = length-append xs ys in let less = b.1 in
    (b.0, omega (arith, long, less), subst (λ text. Both (Extends name text) first last) (sym (take-append-le b.0 xs ys less)) b.2)

-- and a prefix of some bytes is one of more.
pub prefix_more : (xs ys : List ℕ) (old new : FilesView) → AddsPrefix xs old new → AddsPrefix (xs ++ ys) old new
prefix_more xs ys old new a =
    one_name old.writing (λ name. ExtendsByPrefix name xs old.held new.held) (λ name. ExtendsByPrefix name (xs ++ ys) old.held new.held) (λ name p. longer_prefix name xs ys old.held new.held p) a

whole_prefix : (name xs : List ℕ) (first last : Option Held) → Both (Extends name xs) first last → ExtendsByPrefix name xs first last
whole_prefix name xs first last a = (length xs, omega arith, subst (λ text. Both (Extends name text) first last) (sym (take-length xs)) a)

-- All bytes are a prefix of them.
pub prefix_all : (xs : List ℕ) (old new : FilesView) → AddsBytes xs old new → AddsPrefix xs old new
prefix_all xs old new a =
    one_name old.writing (λ name. Both (Extends name xs) old.held new.held) (λ name. ExtendsByPrefix name xs old.held new.held) (λ name p. whole_prefix name xs old.held new.held p) a

no_prefix : (name xs : List ℕ) (first last : Option Held) → last ≡ first → ExtendsByPrefix name xs first last
no_prefix name xs first last same = (0, omega arith, subst (λ held. Both (Extends name []) first held) (sym same) (still_same first name))

-- Where the files stay, a prefix of any bytes was added.
pub prefix_none : (xs : List ℕ) (old new : FilesView) → new.held ≡ old.held → AddsPrefix xs old new
prefix_none xs old new same = by old.writing
  where
    by : (writing : Option (List ℕ)) → IfSome writing (λ name. ExtendsByPrefix name xs old.held new.held)
    by None = tt
    by (Some name) = no_prefix name xs old.held new.held same
