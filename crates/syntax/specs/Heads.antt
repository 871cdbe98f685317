-- Heads: where they stand, and what stands behind them.
use Rattle.std.specs.Prelude.{◌≡◌, Bool, List, ℕ, suc}
use Rattle.std.proofs.Math.Option.{none}
use Rattle.meaning.specs.Rules.{Bytes, Term, Atom}
use Rattle.meaning.specs.Values.{Value}
use Rattle.grammar.specs.Trees.{count, Heads, Program}
use Rattle.grammar.specs.Spelling.{inside, rule, spell_heads}
use Rattle.grammar.specs.Abstraction.{heads_for}
use Rattle.grammar.specs.Sizes.{too_many}
use Rattle.grammar.specs.States.{head_behind, atom_wanted}
use Rattle.grammar.specs.Machine.{after_heads}
use Rattle.syntax.specs.Text.{token_read}
use Rattle.syntax.specs.Ahead.{Wants, wants}
use Rattle.syntax.specs.Fills.{Production}

-- behind heads: a dot, and in a program `:-` or `|`
abbrev pub behind_heads : {ground : Bool} → Program ground → Heads ground → Wants ground
behind_heads p hs = record { next = after_heads p hs; whole = none }

-- the heads of a rule that is one too many, or not, where neither `:-` nor the end stands
pub record HeadsPlace (ground over : Bool) (text : Bytes) (at : ℕ) : Type 0 where
  pub rules : Program ground
  pub size : too_many ground (rule (suc (count rules))) ≡ over
  pub no_if : (token_read ground text at).kind ≡ 9 → ⊥
  pub no_end : (token_read ground text at).kind ≡ 20 → ⊥

-- no variable has been met before them
abbrev pub heads_in : (ground over : Bool) → Bytes → ℕ → Production ground
heads_in ground over text at = record { Context = HeadsPlace ground over text at; Tree = Heads ground; Meant = List (Atom (Term Value)); before = λ h. wants (atom_wanted (head_behind h.rules)); behind = λ h hs. behind_heads h.rules hs; spelling = spell_heads inside; meant = λ vs hs. heads_for hs }
