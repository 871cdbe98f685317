-- Laws about the variables that are met: they depend on the tokens alone.
use mathlib.Core.Path.{◌≡◌, refl, sym as inv, ap, ◌∙◌}
use mathlib.Core.Bool.{Bool, true, false, cond}
use mathlib.Core.Option.{none, some}
use mathlib.Core.List.{[], ◌∷◌, ◌++◌}
use Prim.Native.Nat.{suc, ◌≤◌}
use native.Mathlib.Omega.{arith}
use lib.ListN.{length}
use Rattle.reading.specs.Reading.{tokens, seen}
use Rattle.reading.proofs.Lists.{tokens_append}
use Rattle.meaning.specs.Rules.{Bytes}
use Rattle.meaning.specs.Values.{same_bytes}
use Rattle.grammar.specs.Trees.{Term, name, variable, string, number, negative, anonymous, Atom, atom, Literal, positive, negated, compared, computed, Heads, head, also}
use Rattle.grammar.specs.Spelling.{Mark, Spelling, spell_term, spell_signed, spell_atom, spell_compared, spell_literal, spell_heads}
use Rattle.grammar.specs.Variables.{Variables, number_of, meet_symbol, meet, met}
use Rattle.grammar.specs.Sizes.{language}

pub met_append : (vs : Variables) (l m : Spelling) → met vs (l ++ m) ≡ met (met vs l) m
unfolding met
met_append vs [] m = refl
met_append vs (p ∷ l) m = met_append (meet vs p.token) l m

-- what a reading remembers is the variables met
pub met_seen : (ground : Bool) (vs : Variables) (ps : Spelling) → seen (language ground) vs (tokens ps) ≡ met vs ps
unfolding met tokens seen
met_seen ground vs [] = refl
met_seen ground vs (p ∷ ps) = met_seen ground (meet vs p.token) ps

pub met_tokens : (vs : Variables) (l m : Spelling) → tokens l ≡ tokens m → met vs l ≡ met vs m
met_tokens vs l m e = inv (met_seen false vs l) ∙ ap (seen (language false) vs) e ∙ met_seen false vs m

-- ---- a tree's tokens do not depend on what begins at the first

signed_tokens : (m m' : Mark) (s : Bool) (b : Bytes) → tokens (spell_signed m s b) ≡ tokens (spell_signed m' s b)
unfolding tokens spell_signed
signed_tokens m m' true b = refl
signed_tokens m m' false b = refl

module _ {ground : Bool} (m m' : Mark) where
  term_tokens : (t : Term ground) → tokens (spell_term m t) ≡ tokens (spell_term m' t)
  unfolding tokens spell_term
  term_tokens (name b) = refl
  term_tokens (variable u b) = refl
  term_tokens (string b) = refl
  term_tokens (number n) = refl
  term_tokens (negative n) = refl
  term_tokens (anonymous u) = refl

  atom_tokens : (x : Atom ground) → tokens (spell_atom m x) ≡ tokens (spell_atom m' x)
  unfolding spell_atom
  atom_tokens (atom s b xs) = rw (tokens_append (spell_signed m s b), tokens_append (spell_signed m' s b), signed_tokens m m' s b)

  literal_tokens : (l : Literal ground) → tokens (spell_literal m l) ≡ tokens (spell_literal m' l)
  unfolding tokens spell_literal spell_compared
  literal_tokens (positive x) = atom_tokens x
  literal_tokens (negated x) = refl
  literal_tokens (compared t r u) = rw (tokens_append (spell_term m t), tokens_append (spell_term m' t), term_tokens t)
  literal_tokens (computed t r u o v) = simp (tokens_append, term_tokens t)

  heads_tokens : (hs : Heads ground) → tokens (spell_heads m hs) ≡ tokens (spell_heads m' hs)
  unfolding spell_heads
  heads_tokens (head x) = atom_tokens x
  heads_tokens (also u hs x) = rw (tokens_append (spell_heads m hs), tokens_append (spell_heads m' hs), heads_tokens hs)

  pub met_term : (vs : Variables) (t : Term ground) → met vs (spell_term m t) ≡ met vs (spell_term m' t)
  met_term vs t = met_tokens vs _ _ (term_tokens t)

  pub met_atom : (vs : Variables) (x : Atom ground) → met vs (spell_atom m x) ≡ met vs (spell_atom m' x)
  met_atom vs x = met_tokens vs _ _ (atom_tokens x)

  pub met_literal : (vs : Variables) (l : Literal ground) → met vs (spell_literal m l) ≡ met vs (spell_literal m' l)
  met_literal vs l = met_tokens vs _ _ (literal_tokens l)

  pub met_heads : (vs : Variables) (hs : Heads ground) → met vs (spell_heads m hs) ≡ met vs (spell_heads m' hs)
  met_heads vs hs = met_tokens vs _ _ (heads_tokens hs)

-- ---- no variable is met in a sign and a name

pub met_signed : (vs : Variables) (m : Mark) (s : Bool) (b : Bytes) → met vs (spell_signed m s b) ≡ vs
unfolding met meet meet_symbol spell_signed
met_signed vs m true b = refl
met_signed vs m false b = refl

-- ---- numbers

pub number_at_most : (b : Bytes) (vs : Variables) → number_of b vs ≤ length vs
unfolding number_of
number_at_most b [] = omega arith
number_at_most b (none ∷ vs) = let h = number_at_most b vs in omega arith
number_at_most b (some c ∷ vs) = go (same_bytes b c) (number_at_most b vs)
  where
    go : (e : Bool) → number_of b vs ≤ length vs → cond e 0 (suc (number_of b vs)) ≤ suc (length vs)
    go true h = omega arith
    go false h = omega arith
