-- What the functions that read a built-in atom return, by the tests that led there.
use Rattle.std.specs.Prelude.{Result, Ok}
use mathlib.Core.Path.{◌≡◌, refl, subst, sym as inv, ap, ◌∙◌}
use mathlib.Core.Bool.{true, false, ◌&&◌, Bool}
use mathlib.Core.Logic.{◌⊎◌}
use mathlib.Core.List.{List}
use Prim.Native.Nat.{ℕ, ◌-◌, ◌≤◌, ◌<◌}
use native.Mathlib.Omega.{arith}
use lib.Dec.{leb}
use lib.ListN.{length}
use Rattle.texts.specs.Place.{past}
use Rattle.texts.specs.declared.place.Place.{Place}
use Rattle.texts.specs.declared.refusal.Refusal.TheVariants.{Misplaced}
use Rattle.texts.specs.declared.refusal.Refused.{Refused}
use Rattle.meaning.specs.Domain.{Operation}
use Rattle.meaning.specs.Rules.{Bytes, Term, builtin, Side}
use Rattle.meaning.specs.Values.{Value}
use Rattle.codes.specs.Arithmetic.{comparison_at, operation_at}
use Rattle.names.specs.Table.{names_of}
use Rattle.tables.specs.Rows.{no_operation}
use Rattle.tables.specs.Coded.{CodedLiteral}
use Rattle.syntax.specs.declared.token.TokenRead.{TokenRead}
use Rattle.syntax.specs.Text.{token_read, next_of}
use Rattle.syntax.specs.Fills.{Stops}
use Rattle.syntax.specs.Terms.{term_in}
use Rattle.syntax.specs.Builtins.{comparison_of, operation_of, tail_in, side_in}
use Rattle.texts.specs.Places.{places_in}
use Rattle.syntax.proofs.Tokens.{forward, past_here}
use Rattle.syntax.proofs.Signs.{sign_range}
use Rattle.syntax.proofs.Builtins as laws
use Rattle.syntax.proofs.Readings.{stops_as, goes_as, fills_as}
use Rattle.rows.specs.Coding.{CodedTerm, Codes}
use Rattle.rows.proofs.Growth.{grows_none, grows_then, keeps_term}
use Rattle.rows.proofs.Literals.{built_in_row, coded_compared, coded_computed}
use Rattle.terms.specs.declared.cursor.Cursor.{Cursor}
use Rattle.terms.specs.declared.term.TermRead.{TermRead}
use Rattle.terms.specs.Cursors.{met_before, ReadyToken}
use Rattle.terms.specs.Terms.{ReadsTerm}
use Rattle.terms.proofs.Readiness.{behind_token, met_fits, fits_met, ready_on, codes_wider}
use Rattle.literals.specs.declared.builtin.LiteralRead.{LiteralRead}
use Rattle.literals.specs.declared.builtin.Sides.{Sides}
use Rattle.literals.specs.Builtins.{ReadyBehind, LiteralStands, ReadsTail, ReadsSide, behind_left}

-- a comparison's sign is not the end
pub sign_no_end : (n : ℕ) → (leb 13 n && leb n 19) ≡ true → n ≡ 20 → ⊥
sign_no_end n e z = let y = sign_range n e in omega (arith, y.0, y.1)

module _ (program output : Bytes) (names variables : List ℕ) (k : Cursor) (ready : ReadyBehind program output names variables k) (t : TokenRead) (et : t ≡ token_read false program k.at.start) where
  -- the cursor stands at the token
  pub at_token : ReadyToken program output program names variables k t
  at_token = record { ready = ready.ready; is_token = et ∙ ap (λ (g : Bool). token_read g program k.at.start) (inv ready.in_program) }

  abbrev v : List Place
  v = met_before variables k

  ahead : (t.kind ≡ 20 → ⊥) → k.at.start < next_of t
  ahead n = forward false program k.at.start t et n

  -- a term behind it is one of a program
  in_program_term : (w : TermRead) (names' variables' : List ℕ) → ReadsTerm program output program names variables (behind_token k t) (Ok w) names' variables' → ReadsTerm program output program names variables (record { base = k.base; at = past t.place; ground = false; over = false; met = k.met }) (Ok w) names' variables'
  in_program_term w names' variables' h = rw ready.in_program at h

  -- behind a token, and behind a term that stands there, there is room too
  pub ready_token : (t.kind ≡ 20 → ⊥) → ReadyBehind program output names variables (behind_token k t)
  ready_token n = record { ready = ready_on ready.ready (behind_token k t) refl (grows_none program output names _ ready.ready.room.in_order) (let l = ahead n in omega arith) (past_here false program k.at.start t et (λ q. refl)) ready.ready.few refl; in_program = ready.in_program }

  pub ready_term : (t.kind ≡ 20 → ⊥) → (w : TermRead) (names₁ variables₁ : List ℕ) → ReadsTerm program output program names variables (behind_token k t) (Ok w) names₁ variables₁ → length variables₁ ≡ length variables → ReadyBehind program output names₁ variables₁ (behind_left k w)
  ready_term n w names₁ variables₁ g long = record { ready = ready_on (ready_token n).ready (behind_left k w) refl g.means.grows g.forward g.stands (fits_met variables₁ w.met g.fits) long; in_program = ready.in_program }

  -- ---- behind the right term

  module _ (c : Sides) where
    -- no operation: the literal ends here
    pub tail_none : (t.kind < 10) ⊎ (12 < t.kind) → (row : List ℕ) → row ≡ built_in_row c.comparison no_operation c.left c.right 0 → ReadsTail program output names variables k c (Ok (record { row = row; behind = k.at; met = k.met })) names variables
    tail_none out row e a b ha hb = laws.tail_none program k.at ready.ready.stands t et a (comparison_at c.comparison) b v (met_fits ready.ready) out (record { grows = grows_none program output names _ ready.ready.room.in_order; coded = rw e (coded_compared _ c.comparison c.left c.right ha hb) })

    module _ (low : 10 ≤ t.kind) (high : t.kind ≤ 12) where
      pub tail_stops : (a b : Term Value) (x : Refused) → Stops (term_in k.ground false) program (next_of t) v x → Stops (tail_in a (comparison_at c.comparison) b) program k.at.start v x
      tail_stops a b x g = stops_as (laws.tail_around program k.at.start t et a (comparison_at c.comparison) b v low high) (rw ready.in_program at g)

      pub tail_goes : (w : TermRead) (names' variables' : List ℕ) → ReadsTerm program output program names variables (behind_token k t) (Ok w) names' variables' → (o : ℕ) → (operation_at o ≡ operation_of t.kind) × (o < no_operation) → (row : List ℕ) → row ≡ built_in_row c.comparison o c.left c.right w.number → ReadsTail program output names variables k c (Ok (record { row = row; behind = w.behind; met = w.met })) names' variables'
      tail_goes w names' variables' g o p row er a b ha hb = goes_as (laws.tail_around program k.at.start t et a (comparison_at c.comparison) b v low high) (LiteralStands program output names k.at.start (record { row = row; behind = w.behind; met = w.met }) names') (λ d l h. rw er (computed d l h)) (in_program_term w names' variables' g)
        where
          computed : (d : Term Value) → next_of t ≤ w.behind.start → Codes program output names (w.behind.start - next_of t) (λ ns. CodedTerm ns w.number d) names' → Codes program output names (w.behind.start - k.at.start) (λ ns. CodedLiteral ns (built_in_row c.comparison o c.left c.right w.number) (builtin (comparison_at c.comparison) a (Side.computed b (operation_of t.kind) d))) names'
          computed d l h = codes_wider _ (let y = ahead (λ z. omega arith) in omega arith) (record { grows = h.grows; coded = subst (λ (x : Operation). CodedLiteral (names_of program output names') (built_in_row c.comparison o c.left c.right w.number) (builtin (comparison_at c.comparison) a (Side.computed b x d))) p.0 (coded_computed _ c.comparison c.left c.right (keeps_term program output h.grows c.left _ ha) (keeps_term program output h.grows c.right _ hb) o w.number p.1 h.coded) })

  -- ---- behind the left term

  module _ (left : ℕ) where
    pub side_wrong : (leb 13 t.kind && leb t.kind 19) ≡ false → (a : Term Value) → Stops (side_in a) program k.at.start v (record { refusal = Misplaced; place = t.place })
    side_wrong e a = laws.side_wrong program k.at.start t et a v e

    module _ (e : (leb 13 t.kind && leb t.kind 19) ≡ true) where
      pub side_stops : (a : Term Value) (x : Refused) → Stops (term_in k.ground false) program (next_of t) v x → Stops (side_in a) program k.at.start v x
      side_stops a x g = laws.side_stops program k.at.start t et a v e (rw ready.in_program at g)

      pub side_goes : (w : TermRead) (names' variables' : List ℕ) → ReadsTerm program output program names variables (behind_token k t) (Ok w) names' variables' → (j : ℕ) → comparison_at j ≡ comparison_of t.kind → (r : Result LiteralRead Refused) (names'' variables'' : List ℕ) → ReadsTail program output names' variables' (behind_left k w) (record { left = left; comparison = j; right = w.number }) r names'' variables'' → ReadsSide program output names variables k left r names'' variables''
      side_goes w names' variables' g j ej r names'' variables'' tails a ha =
          fills_as (laws.side_around program k.at.start t et a v e right) r (λ l. l.behind) (λ l. places_in variables'' l.met) (λ l. LiteralStands program output names' w.behind.start l names'') (λ l. LiteralStands program output names k.at.start l names'') (λ l m y h. record { grows = grows_then program output right.means.grows _ h.grows (let f = right.forward in let d = ahead (sign_no_end t.kind e) in omega arith); coded = h.coded }) (rw (inv ej) (tails a _ (keeps_term program output right.means.grows left _ ha) right.means.coded))
        where
          right : ReadsTerm program output program names variables (record { base = k.base; at = past t.place; ground = false; over = false; met = k.met }) (Ok w) names' variables'
          right = in_program_term w names' variables' g
