-- A rule that has been read into its literals' rows: its own row may be stored, and stands for it then.
use mathlib.Core.Path.{◌≡◌}
use mathlib.Core.List.{List}
use Prim.Native.Nat.{ℕ, ◌≤◌}
use native.Mathlib.Omega.{arith}
use lib.ListN.{length}
use Rattle.std.specs.Prelude.{Option}
use Rattle.texts.specs.declared.place.Place.{Place}
use Rattle.texts.specs.Places.{places_in}
use Rattle.texts.proofs.PlaceTables.{places_length}
use Rattle.meaning.specs.Rules.{Bytes}
use Rattle.grammar.specs.Abstraction.{rule_for}
use Rattle.names.specs.Table.{names_of}
use Rattle.grammar.specs.Sizes.{most_heads, most_literals}
use Rattle.clauses.specs.declared.clause.RuleRead.{RuleRead}
use Rattle.clauses.specs.Clauses.{RuleGoes}
use Rattle.rulesafety.specs.declared.bound.Bound.{Bound}
use Rattle.rulesafety.specs.Bound.{bits_of}
use Rattle.rulesafety.specs.RuleRow.{Storable, RowStored}
use Rattle.rulesafety.specs.Unbound.{Numbered, FirstUnbound}
use Rattle.rulesafety.proofs.RuleRows.{RuleStored, rule_stands, rule_row, bound_is}
use Rattle.rulesafety.proofs.FirstUnbound.{unbound_same}
use Rattle.program.specs.declared.put.RuleStart.{RuleStart}
use Rattle.program.specs.Puts.{cursor_at, Puttable, Owns, PutGoes}

-- the rows that a stored row names are the rule's own
own_rows : {rules rules' literals : List ℕ} {number heads count : ℕ} {b : Bound} → heads ≤ most_heads → count ≤ most_literals → RowStored rules literals number heads count b rules' → Owns rules' number
own_rows few_heads few stored =
    record {
      head = stored.head_row;
      few_heads = let e = stored.heads_size in omega arith;
      first = stored.first_row;
      short = let e = stored.size in omega arith;
      few_equations = stored.few_equations;
      equations = λ l h. (let k = stored.binds l h in let p = k.from_first in let q = k.before_end in (omega arith, omega arith));
      few_positives = stored.few_positives;
      positives = λ l h. (let k = stored.in_body l h in let p = k.0 in let q = k.1 in (omega arith, omega arith));
    }

-- a rule has been read into the rows of its literals
module _ (program output : Bytes) (names variables rules literals : List ℕ) (s : RuleStart) (asked : Puttable program output names variables rules literals s) (w : RuleRead) (names' variables' literals' : List ℕ) (g : RuleGoes program output names variables literals (cursor_at s) s.number w names' variables' literals') where
  pub row_storable : Storable rules literals' s.number w.count
  row_storable =
      let long = asked.ready.long g.kept in
      let same = g.stands.kept.long in
      let few = g.stands.few in
      record { body = omega arith; few = few; long = asked.rules_long g.kept }

  pub few_numbered : length variables' ≡ length variables → Numbered variables' w.met
  few_numbered same =
      let long = asked.ready.ready.ready.long in
      let size = places_length variables' w.met in
      let few = g.stands.fits in
      record { few = omega arith; long = omega arith }

  module _ (b : Bound) (rules' : List ℕ) (stored : RowStored rules literals' s.number w.heads w.count b rules') (u : Option Place) (unbound : FirstUnbound (bits_of b) (places_in variables' w.met) u) where
    its_rows : RuleStored (names_of program output names') (rule_for g.rule) rules literals' s.number w.heads w.count b rules'
    its_rows =
        let h = g.stands in
        record { asked = row_storable; few_heads = h.few_heads; heads_coded = h.stands.coded.0; heads_size = h.heads_size; body_coded = h.stands.coded.1; size = h.size; stored = stored }

    pub put_goes : PutGoes program output names rules literals s (record { behind = w.behind; unbound = u }) names' rules' literals'
    put_goes =
        let h = g.stands in
        record {
          kept = g.kept;
          rule = g.rule;
          stands =
              record {
                forward = h.forward;
                placed = h.placed;
                grows = h.stands.grows;
                rules_kept = stored.kept;
                literals_kept = h.kept;
                stands = rule_stands its_rows;
                owns = own_rows h.few_heads h.few stored;
                row = rule_row its_rows;
                unbound = rw h.firsts (unbound_same (bound_is its_rows) unbound);
                rest = h.rest;
              };
          ahead = g.ahead;
        }
