-- What holds at every move of a list holds at every step that the list allows.
use mathlib.Core.Path.{◌≡◌, refl, sym as inv, ap, ◌∙◌}
use mathlib.Core.Bool.{Bool, true, false}
use mathlib.Core.Option.{Option, none, some}
use mathlib.Core.List.{List, [], ◌∷◌, ◌++◌}
use Prim.Native.Nat.{ℕ}
use native.Mathlib.Omega.{arith}
use lib.Dec.{eqb}
use lib.ListN.{get_or}
use borrow.Author.Tests.{eqb-true}
use Rattle.reading.specs.Machine.{Step}
use Rattle.reading.proofs.Lists.{none_some, some_inj}
use Rattle.meaning.specs.Rules.{Bytes}
use Rattle.grammar.specs.Tokens.{Sign, Symbol, underscore, not, minus, opening, closing, comma, dot, :-, plus, times, bar, Token, name, variable, string, number, comparison, symbol, stray}
use Rattle.grammar.specs.Trees.{Free}
use Rattle.grammar.specs.Spelling.{Mark, inside}
use Rattle.grammar.specs.Moves.{Move, on_name, on_variable, on_string, on_number, on_comparison, on, free_moves, symbol_number, when, fire, either, try}

-- ---- a symbol's number is its own

symbol_at : ℕ → Symbol
symbol_at n = get_or (dot ∷ not ∷ dot ∷ underscore ∷ dot ∷ opening ∷ closing ∷ comma ∷ dot ∷ :- ∷ minus ∷ plus ∷ times ∷ []) n bar

symbol_back : (s : Symbol) → symbol_at (symbol_number s) ≡ s
unfolding symbol_at symbol_number
symbol_back underscore = refl
symbol_back not = refl
symbol_back minus = refl
symbol_back opening = refl
symbol_back closing = refl
symbol_back comma = refl
symbol_back dot = refl
symbol_back :- = refl
symbol_back plus = refl
symbol_back times = refl
symbol_back bar = refl

same_symbol : (s z : Symbol) → eqb (symbol_number s) (symbol_number z) ≡ true → s ≡ z
same_symbol s z h = inv (symbol_back s) ∙ ap symbol_at (eqb-true (symbol_number s) (symbol_number z) h) ∙ symbol_back z

-- ---- free moves

pub free_given : {S : Type 0} (ground : Bool) (f : Free ground → List (Move S)) (u : Free ground) → free_moves ground f ≡ f u
unfolding free_moves
free_given true f u = absurd u
free_given false f u = refl

pub free_try : {S : Type 0} (ground : Bool) (f : Free ground → List (Move S)) (u : Free ground) (t : Token) → try (free_moves ground f) t ≡ try (f u) t
free_try ground f u t = ap (λ ms. try ms t) (free_given ground f u)

pub free_denied : {S : Type 0} (ground : Bool) (f : Free ground → List (Move S)) → ground ≡ true → free_moves ground f ≡ []
unfolding free_moves
free_denied true f e = refl
free_denied false f e = let z : ◌≡◌ {A = ℕ} 0 1 = cc in absurd (omega arith)

-- ---- P holds of each token that a move takes, and of the step

unfoldable pub OnMove : {S : Type 0} → (Token → Step S Mark → Type 0) → Move S → Type 0
OnMove P (on_name m k) = (b : Bytes) → P (name b) (record { mark = m; state = k b })
OnMove P (on_variable m k) = (b : Bytes) → P (variable b) (record { mark = m; state = k b })
OnMove P (on_string m k) = (b : Bytes) → P (string b) (record { mark = m; state = k b })
OnMove P (on_number m k) = (n : ℕ) → P (number n) (record { mark = m; state = k n })
OnMove P (on_comparison k) = (r : Sign) → P (comparison r) (record { mark = inside; state = k r })
OnMove P (on m s x) = P (symbol s) (record { mark = m; state = x })

unfoldable pub OnMoves : {S : Type 0} → (Token → Step S Mark → Type 0) → List (Move S) → Type 0
OnMoves P [] = Unit {0}
OnMoves P (m ∷ ms) = OnMove P m × OnMoves P ms

pub on_append : {S : Type 0} (P : Token → Step S Mark → Type 0) (l m : List (Move S)) → OnMoves P l → OnMoves P m → OnMoves P (l ++ m)
unfolding OnMoves
on_append P [] m g h = h
on_append P (x ∷ l) m g h = (g.0, on_append P l m g.1 h)

pub on_free : {S : Type 0} (P : Token → Step S Mark → Type 0) (ground : Bool) (f : Free ground → List (Move S)) → ((u : Free ground) → OnMoves P (f u)) → OnMoves P (free_moves ground f)
unfolding OnMoves free_moves
on_free P true f g = tt
on_free P false f g = g tt

fire_all : {S : Type 0} (P : Token → Step S Mark → Type 0) (m : Move S) (t : Token) (x : Step S Mark) → OnMove P m → fire m t ≡ some x → P t x
unfolding OnMove fire when
fire_all P (on_name m k) (name b) x g h = rw (← (some_inj h)) (g b)
fire_all P (on_name m k) (variable b) x g h = absurd (none_some h)
fire_all P (on_name m k) (string b) x g h = absurd (none_some h)
fire_all P (on_name m k) (number n) x g h = absurd (none_some h)
fire_all P (on_name m k) (comparison r) x g h = absurd (none_some h)
fire_all P (on_name m k) (symbol s) x g h = absurd (none_some h)
fire_all P (on_name m k) (stray b) x g h = absurd (none_some h)
fire_all P (on_variable m k) (name b) x g h = absurd (none_some h)
fire_all P (on_variable m k) (variable b) x g h = rw (← (some_inj h)) (g b)
fire_all P (on_variable m k) (string b) x g h = absurd (none_some h)
fire_all P (on_variable m k) (number n) x g h = absurd (none_some h)
fire_all P (on_variable m k) (comparison r) x g h = absurd (none_some h)
fire_all P (on_variable m k) (symbol s) x g h = absurd (none_some h)
fire_all P (on_variable m k) (stray b) x g h = absurd (none_some h)
fire_all P (on_string m k) (name b) x g h = absurd (none_some h)
fire_all P (on_string m k) (variable b) x g h = absurd (none_some h)
fire_all P (on_string m k) (string b) x g h = rw (← (some_inj h)) (g b)
fire_all P (on_string m k) (number n) x g h = absurd (none_some h)
fire_all P (on_string m k) (comparison r) x g h = absurd (none_some h)
fire_all P (on_string m k) (symbol s) x g h = absurd (none_some h)
fire_all P (on_string m k) (stray b) x g h = absurd (none_some h)
fire_all P (on_number m k) (name b) x g h = absurd (none_some h)
fire_all P (on_number m k) (variable b) x g h = absurd (none_some h)
fire_all P (on_number m k) (string b) x g h = absurd (none_some h)
fire_all P (on_number m k) (number n) x g h = rw (← (some_inj h)) (g n)
fire_all P (on_number m k) (comparison r) x g h = absurd (none_some h)
fire_all P (on_number m k) (symbol s) x g h = absurd (none_some h)
fire_all P (on_number m k) (stray b) x g h = absurd (none_some h)
fire_all P (on_comparison k) (name b) x g h = absurd (none_some h)
fire_all P (on_comparison k) (variable b) x g h = absurd (none_some h)
fire_all P (on_comparison k) (string b) x g h = absurd (none_some h)
fire_all P (on_comparison k) (number n) x g h = absurd (none_some h)
fire_all P (on_comparison k) (comparison r) x g h = rw (← (some_inj h)) (g r)
fire_all P (on_comparison k) (symbol s) x g h = absurd (none_some h)
fire_all P (on_comparison k) (stray b) x g h = absurd (none_some h)
fire_all P (on m z y) (name b) x g h = absurd (none_some h)
fire_all P (on m z y) (variable b) x g h = absurd (none_some h)
fire_all P (on m z y) (string b) x g h = absurd (none_some h)
fire_all P (on m z y) (number n) x g h = absurd (none_some h)
fire_all P (on m z y) (comparison r) x g h = absurd (none_some h)
fire_all P (on m z y) (stray b) x g h = absurd (none_some h)
fire_all {S} P (on m z y) (symbol s) x g h = go (eqb (symbol_number s) (symbol_number z)) refl h
  where
    go : (b : Bool) → eqb (symbol_number s) (symbol_number z) ≡ b → when b (record { mark = m; state = y }) ≡ some x → P (symbol s) x
    go true e h' = let q : s ≡ z = same_symbol s z e in rw (← (some_inj h'), q) g
    go false e h' = absurd (none_some h')

pub try_all : {S : Type 0} (P : Token → Step S Mark → Type 0) (ms : List (Move S)) (t : Token) (x : Step S Mark) → OnMoves P ms → try ms t ≡ some x → P t x
unfolding OnMoves try either
try_all P [] t x g h = absurd (none_some h)
try_all {S} P (m ∷ ms) t x g h = go (fire m t) refl h (λ k. try_all P ms t x g.1 k)
  where
    go : (o : Option (Step S Mark)) → fire m t ≡ o → either o (try ms t) ≡ some x → (try ms t ≡ some x → P t x) → P t x
    go none e h' rec = rec h'
    go (some y) e h' rec = fire_all P m t x g.0 (e ∙ h')
