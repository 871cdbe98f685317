-- A rule's rows, its own and its literals', stand for it, bind what it binds, and are as the engine asks where it is safe.
use mathlib.Core.Path.{◌≡◌, sym, ap, ◌∙◌}
use mathlib.Core.Bool.{Bool, true}
use mathlib.Core.List.{List}
use Prim.Native.Nat.{ℕ, ◌*◌, ◌≤◌}
use native.Mathlib.Omega.{arith}
use lib.ListN.{length}
use Rattle.meaning.specs.Rules.{Bytes, Rule}
use Rattle.meaning.specs.Values.{Value}
use Rattle.meaning.specs.Safety.{positives, equations, bound, safe}
use Rattle.codes.specs.Codes.{Coded}
use Rattle.codes.specs.Predicates.{CodedName}
use Rattle.codes.specs.Related.{RelatedRule}
use Rattle.codes.proofs.Safe.{same_bound, same_safe}
use Rattle.grammar.specs.Sizes.{most_heads}
use Rattle.tables.specs.Layout.{rule_rows}
use Rattle.tables.specs.Rows.{from, literal_at, rule_at}
use Rattle.tables.specs.WellFormed.{RuleRow}
use Rattle.tables.specs.Coded.{HeadsCoded, BodyCoded}
use Rattle.tables.proofs.Coded.{related_heads, related_body, side_row}
use Rattle.rulesafety.specs.declared.bound.Bound.{Bound}
use Rattle.rulesafety.specs.Bound.{bits_of, body_at}
use Rattle.rulesafety.specs.RuleRow.{first_of_body, Storable, RowStored}

-- the rows of the rule's literals stand for them, beside a list of names, and its own row is stored
pub record RuleStored (names : List Bytes) (m : Rule Value) (rules literals : List ℕ) (number heads count : ℕ) (b : Bound) (rules' : List ℕ) : Type 0 where
  pub asked : Storable rules literals number count
  pub few_heads : heads ≤ most_heads
  pub heads_coded : HeadsCoded names literals (number * rule_rows) m.heads
  pub heads_size : heads ≡ length m.heads
  pub body_coded : BodyCoded names literals (first_of_body number) m.body
  pub size : count ≡ length m.body
  pub stored : RowStored rules literals number heads count b rules'

module _ {names : List Bytes} {m : Rule Value} {rules literals : List ℕ} {number heads count : ℕ} {b : Bound} {rules' : List ℕ} (rule : RuleStored names m rules literals number heads count b rules') where
  pub rule_stands : RelatedRule (CodedName names) (Coded names) (rule_at rules' literals number) m
  unfolding rule_at
  rule_stands =
      record {
        heads = rw (rule.stored.heads_size, rule.stored.head_row, rule.heads_size) (related_heads names literals (number * rule_rows) m.heads rule.heads_coded);
        body = rw (rule.stored.size, rule.stored.first_row, rule.size) (related_body names literals (first_of_body number) m.body rule.body_coded);
      }

  body_rows : (rule_at rules' literals number).body ≡ from (literal_at literals) count (first_of_body number)
  unfolding rule_at
  body_rows = rw (rule.stored.size, rule.stored.first_row)

  equations_same : equations (body_at literals (first_of_body number) count) ≡ equations (rule_at rules' literals number)
  unfolding equations
  equations_same = rw body_rows

  bound_same : bound (body_at literals (first_of_body number) count) ≡ bound (rule_at rules' literals number)
  unfolding bound equations
  bound_same = rw body_rows

  pub bound_is : (x : ℕ) → bits_of b x ≡ bound m x
  bound_is x = rule.stored.bits x ∙ ap (λ (B : ℕ → Bool). B x) (bound_same ∙ same_bound rule_stands)

  pub rule_row : safe m ≡ true → RuleRow rules' literals number
  rule_row is_safe =
      let stored = rule.stored in
      let head_row = stored.head_row in
      let heads_size = stored.heads_size in
      let few_heads = rule.few_heads in
      let first_row = stored.first_row in
      let count_row = stored.size in
      let inside = rule.asked.body in
      let few = rule.asked.few in
      let size = rule.size in
      record {
        inside = let l = stored.kept.long in let i = rule.asked.long in omega arith;
        heads_within = omega arith;
        body = λ l p q. record { inside = omega arith; side = side_row names literals (first_of_body number) m.body rule.body_coded l (omega arith) (omega arith) };
        within = omega arith;
        short = omega arith;
        few_equations = stored.few_equations;
        equation = λ l h. (let k = stored.binds l h in let p = k.from_first in let q = k.before_end in record { inside = omega arith; side = side_row names literals (first_of_body number) m.body rule.body_coded l p (omega arith) k.built_in; left = k.left });
        equations_stored = stored.equations ∙ equations_same;
        few_positives = stored.few_positives;
        positive = λ l h. (let k = stored.in_body l h in let p = k.0 in let q = k.1 in omega arith);
        positives_stored = stored.positives ∙ ap positives (sym body_rows);
        no_operation = λ z. rw body_rows (stored.silent z);
        is_safe = same_safe rule_stands ∙ is_safe;
      }
