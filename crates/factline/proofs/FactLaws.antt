-- What the function that reads a fact returns, by the tests that led there.
use mathlib.Core.Path.{◌≡◌, refl, ap, ◌∙◌, sym as inv}
use mathlib.Core.Bool.{Bool, true}
use mathlib.Core.List.{List, []}
use Prim.Native.Nat.{ℕ, ◌<◌}
use native.Mathlib.Omega.{arith}
use borrow.Author.Tests.{ne_eqb}
use Rattle.std.specs.Prelude.{Result, Ok}
use Rattle.texts.specs.declared.place.Place.{Place}
use Rattle.texts.specs.declared.refusal.Refused.{Refused}
use Rattle.texts.specs.declared.refusal.Refusal.TheVariants.{Misplaced}
use Rattle.texts.specs.Place.{past}
use Rattle.texts.specs.Places.{places_in}
use Rattle.meaning.specs.Rules.{Bytes}
use Rattle.grammar.specs.Trees.{empty, count, head, Program}
use Rattle.grammar.specs.Sizes.{too_many}
use Rattle.grammar.specs.States.{head_behind, atom_wanted}
use Rattle.grammar.specs.Moves.{free_moves, symbol_number, when, either}
use Rattle.grammar.specs.Machine.{after_atom, else_wanted, moves, finished_atom, finished}
use Rattle.grammar.proofs.Numbers.{try_number, fire_number}
use Rattle.syntax.specs.declared.token.TokenRead.{TokenRead}
use Rattle.syntax.specs.Text.{placed_from, end_of, token_read, next_of}
use Rattle.syntax.specs.Variables.{variables_of}
use Rattle.syntax.specs.Ahead.{wants, from}
use Rattle.syntax.specs.Fills.{Stops}
use Rattle.syntax.specs.Atoms.{AtomPlace, atom_context, atom_in}
use Rattle.syntax.specs.Rules.{behind_rules, RulePlace}
use Rattle.syntax.proofs.Tokens.{forward, past_here}
use Rattle.syntax.proofs.Steps.{same_walk, wrong_token, at_end, dot_stands}
use Rattle.syntax.proofs.Heads.{heads_dot, line_wrong}
use Rattle.terms.proofs.Readiness.{codes_wider}
use Rattle.terms.specs.declared.cursor.Cursor.{Cursor}
use Rattle.terms.specs.Cursors.{met_before}
use Rattle.atoms.specs.declared.atom.AtomRead.{AtomRead}
use Rattle.atoms.specs.Atoms.{ReadsAtom}
use Rattle.factline.specs.Facts.{ReadyFact, FactGoes, LineEnds, FactStops}

-- the cursor where a fact stands
abbrev at_fact : ℕ → Place → Bool → Cursor
at_fact base at over = record { base = base; at = at; ground = true; over = over; met = 0 }

-- what is asked of a cursor says that it is one
pub atom_on_line : (program output text : Bytes) (names variables : List ℕ) (k : Cursor) → ReadyFact program output text names variables k → (r : Result AtomRead Refused) (names' variables' : List ℕ) → ReadsAtom program output text names variables k r names' variables' → ReadsAtom program output text names variables (at_fact k.base k.at k.over) r names' variables'
atom_on_line program output text names variables k asked r names' variables' h = rw (asked.on_line, asked.none_met) at h

pub stopped_on_line : (program output text : Bytes) (names variables : List ℕ) (k : Cursor) → ReadyFact program output text names variables k → (e : Refused) → Stops (atom_in k.ground k.over text k.at.start) text k.at.start (met_before variables k) e → Stops (atom_in true k.over text k.at.start) text k.at.start [] e
unfolding places_in
stopped_on_line program output text names variables k asked e h = rw (asked.on_line, asked.none_met) at h

-- the answer behind facts, by what is wanted there
as_ahead : (text : Bytes) (at : ℕ) (p : Program true) → behind_rules true text p at ≡ (from true text (wants (atom_wanted (head_behind p))) [] at).answer
unfolding variables_of
as_ahead text at p = same_walk true (placed_from true text at) (atom_wanted (head_behind p)) [] (end_of text)

module _ (program output text : Bytes) (names variables : List ℕ) (base : ℕ) (at : Place) (over : Bool) (t : TokenRead) (et : t ≡ token_read true text at.start) where
  pub fact_ended : t.kind ≡ 20 → LineEnds names text at.start names
  unfolding finished finished_atom
  fact_ended ek = record { same_names = refl; answer = λ p. as_ahead text at.start p ∙ at_end true text at.start t et (wants (atom_wanted (head_behind p))) [] p ek refl }

  -- `:-`
  pub fact_if : t.kind ≡ 9 → FactStops over text at.start (record { refusal = Misplaced; place = t.place })
  unfolding moves else_wanted free_moves try_number fire_number either when symbol_number
  fact_if ek = record { refuses = omega arith; answer = λ h. as_ahead text at.start h.rules ∙ wrong_token true text at.start t et (wants (atom_wanted (head_behind h.rules))) [] (rw (ne_eqb t.kind 0 (λ z. omega arith), ne_eqb t.kind 10 (λ z. omega arith))) (λ z. absurd (omega arith)) }

  -- its atom is refused, or read
  module _ (ne : t.kind ≡ 9 → ⊥) (nd : t.kind ≡ 20 → ⊥) where
    place : RulePlace true over → AtomPlace true over text at.start
    place h = AtomPlace.head h.rules h.size (λ z. ne (rw et z)) (λ z. nd (rw et z))

    pub fact_stops : (e : Refused) → Stops (atom_in true over text at.start) text at.start [] e → FactStops over text at.start e
    unfolding place atom_context
    fact_stops e w = record { refuses = w.refuses; answer = λ h. as_ahead text at.start h.rules ∙ w.answer (place h) }

    module _ (w : AtomRead) (names' variables' : List ℕ) (g : ReadsAtom program output text names variables (at_fact base at over) (Ok w) names' variables') (d : TokenRead) (ed : d ≡ token_read true text w.behind.start) where
      abbrev v' : List Place
      v' = places_in variables' w.met

      -- no dot behind it
      pub fact_wrong : (d.kind ≡ 8 → ⊥) → FactStops over text at.start (record { refusal = Misplaced; place = d.place })
      unfolding place atom_context places_in moves after_atom finished
      fact_wrong n = record { refuses = omega arith; answer = λ h. as_ahead text at.start h.rules ∙ ap (λ y. y.answer) (g.ahead (place h)) ∙ line_wrong text w.behind.start d ed v' n h.rules (head g.tree) }

      pub fact_goes : d.kind ≡ 8 → FactGoes program output names over text at.start (record { codes = w.codes; start = t.place.start; behind = past d.place }) names'
      unfolding place atom_context places_in variables_of moves after_atom finished too_many count
      fact_goes ek =
          let l : w.behind.start < next_of d = forward true text w.behind.start d ed (λ q. let y : ◌≡◌ {A = ℕ} 8 20 = inv ek ∙ q in omega arith) in
          let y = g.ahead (AtomPlace.head empty (inv g.kept) (λ z. ne (rw et z)) (λ z. nd (rw et z))) in
          let f = g.forward in
          record {
            kept = g.kept;
            atom = g.tree;
            stands =
                record {
                  codes = codes_wider _ (omega arith) g.means;
                  forward = omega arith;
                  placed = past_here true text w.behind.start d ed (λ q. absurd (let y : ◌≡◌ {A = ℕ} 8 21 = inv ek ∙ q in omega arith));
                  start = rw et;
                  some_token = λ k. nd (rw et k);
                  rest = ap (λ u. u.rest) y ∙ (heads_dot true text w.behind.start d ed v' ek empty (head g.tree)).2;
                  dot = d.place;
                  dot_is = ap (λ u. u.dot) y ∙ dot_stands true text w.behind.start d ed ek;
                  ends = rw ed;
                };
            ahead = λ h. as_ahead text at.start h.rules ∙ ap (λ u. u.answer) (g.ahead (place h)) ∙ (heads_dot true text w.behind.start d ed v' ek h.rules (head g.tree)).0;
          }
