-- A text that is read has no more rules, or facts, than there may be.
use mathlib.Core.Path.{◌≡◌, refl}
use mathlib.Core.Bool.{Bool, true, false, ◌||◌}
use mathlib.Core.Option.{none, some}
use mathlib.Core.List.{List, [], ◌∷◌, ◌++◌}
use Prim.Native.Nat.{suc, ◌≤◌}
use native.Mathlib.Omega.{arith}
use borrow.Author.Tests.{ltb-false}
use Rattle.reading.specs.Reading.{◌at◌, Placed, Within, tree, Reading, read}
use Rattle.reading.proofs.Lists.{within_split}
use Rattle.grammar.specs.Tokens.{Token}
use Rattle.grammar.specs.Trees.{empty, ◌then◌, count, Atom, atom, Heads, head, also, Rule, fact, clause, Program}
use Rattle.grammar.specs.Spelling.{Mark, rule, Spelling, spell_signed, spell_atom, spell_heads, spell_head, spell_rule, spell}
use Rattle.grammar.specs.Variables.{Variables}
use Rattle.grammar.specs.Sizes.{too_big, too_long, most_rules, too_many, too_many_variables, refusal, fault, language}

-- a token that passes no size is not the first of what is too many
none_many : (ground : Bool) (vs : Variables) (t : Token) (m : Mark) → fault ground vs (t at m) ≡ 0 → too_many ground m ≡ false
unfolding fault refusal
none_many ground vs t m e = go (too_big t) (too_long t) (too_many ground m) (too_many_variables vs t) e
  where
    go : (a b c d : Bool) → refusal a (b || c || d) ≡ 0 → c ≡ false
    go a b false d h = refl
    go true true true d h = absurd (omega arith)
    go true false true d h = absurd (omega arith)
    go false true true d h = absurd (omega arith)
    go false false true d h = absurd (omega arith)

-- what begins at a rule's first token
pub record Begins (m : Mark) (s : Spelling) : Type 0 where
  pub first : Token
  pub rest : Spelling
  pub split : s ≡ (first at m) ∷ rest

begins_on : {m : Mark} {s : Spelling} (r : Spelling) → Begins m s → Begins m (s ++ r)
begins_on r b = record { first = b.first; rest = b.rest ++ r; split = rw b.split }

module _ {ground : Bool} (m : Mark) where
  atom_begins : (x : Atom ground) → Begins m (spell_atom m x)
  unfolding spell_atom spell_signed
  atom_begins (atom true b xs) = record { first = _; rest = _; split = refl }
  atom_begins (atom false b xs) = record { first = _; rest = _; split = refl }

  heads_begin : (hs : Heads ground) → Begins m (spell_heads m hs)
  unfolding spell_heads
  heads_begin (head x) = atom_begins x
  heads_begin (also u hs x) = begins_on _ (heads_begin hs)

  rule_begins : (r : Rule ground) → Begins m (spell_rule m r)
  unfolding spell_rule spell_head
  rule_begins (fact hs) = begins_on _ (heads_begin hs)
  rule_begins (clause u none ls l) = record { first = _; rest = _; split = refl }
  rule_begins (clause u (some hs) ls l) = begins_on _ (begins_on _ (begins_on _ (begins_on _ (heads_begin hs))))

begins_within : (ground : Bool) (vs : Variables) (m : Mark) (s : Spelling) → Begins m s → Within (language ground) vs s → too_many ground m ≡ false
unfolding Within
begins_within ground vs m s b w = none_many ground vs b.first m (rw b.split at w).0

few : (ground : Bool) (c : Program ground) → Within (language ground) [] (spell c) → count c ≤ most_rules ground
unfolding count spell too_many
few ground empty w = omega arith
few ground (p then r) w =
    let m = rule (suc (count p)) in
    let k = begins_within ground _ m (spell_rule m r) (rule_begins m r) (within_split (language ground) [] (spell p) (spell_rule m r) w).1 in
    ltb-false (most_rules ground) (suc (count p)) k

pub read_few : (ground : Bool) {P : Type 0} (end : P) (ts : List (Placed P Token)) {c : Program ground} → Reading (language ground) end ts (tree c) → count c ≤ most_rules ground
read_few ground end ts (read c e w) = few ground c w
