-- Laws of what is asked at a cursor: reading goes on behind what has been read.
use mathlib.Core.Path.{◌≡◌}
use mathlib.Core.Bool.{false}
use mathlib.Core.List.{List}
use Prim.Native.Nat.{ℕ, ◌-◌, ◌≤◌}
use native.Mathlib.Omega.{arith}
use lib.ListN.{length}
use Rattle.texts.specs.Place.{Stands, past}
use Rattle.texts.specs.Places.{places_in}
use Rattle.texts.proofs.PlaceTables.{places_length}
use Rattle.meaning.specs.Rules.{Bytes}
use Rattle.syntax.specs.declared.token.TokenRead.{TokenRead}
use Rattle.syntax.specs.Variables.{Fits}
use Rattle.rows.specs.Growth.{Grows}
use Rattle.rows.specs.Coding.{Codes}
use Rattle.rows.proofs.Growth.{grows_none, grows_then, room_after}
use Rattle.terms.specs.declared.cursor.Cursor.{Cursor}
use Rattle.terms.specs.Cursors.{ReadyCursor, met_before, onward}

-- the cursor behind a token
abbrev pub behind_token : Cursor → TokenRead → Cursor
behind_token k t = onward k (past t.place) false k.met

-- the variables met are no more than a rule may have
pub met_fits : {program output text : Bytes} {names variables : List ℕ} {k : Cursor} → ReadyCursor program output text names variables k → Fits (met_before variables k)
met_fits {variables = variables} {k} r = omega (arith, places_length variables k.met, r.few)

pub fits_met : (variables : List ℕ) (n : ℕ) → Fits (places_in variables n) → n ≤ 16
fits_met variables n f = omega (arith, places_length variables n)

module _ {program output text : Bytes} {names variables : List ℕ} {k : Cursor} (ready : ReadyCursor program output text names variables k) where
  -- there is room behind what has been read
  pub ready_on : {names' variables' : List ℕ} (k' : Cursor) → k'.base ≡ k.base → Grows program output names (k'.at.start - k.at.start) names' → k.at.start ≤ k'.at.start → Stands text k'.at → k'.met ≤ 16 → length variables' ≡ length variables → ReadyCursor program output text names' variables' k'
  ready_on k' same grows forward stands few long =
      record {
        source = rw same ready.source;
        short = ready.short;
        stands = stands;
        room = room_after program output grows (length text - k'.at.start) ready.room (omega (arith, stands.inside));
        few = few;
        long = omega (arith, ready.long);
      }

-- what stands for something stands for it, though more names might have been put in
pub codes_wider : {program output : Bytes} {names names' : List ℕ} {n : ℕ} {C : List Bytes → Type 0} (m : ℕ) → n ≤ m → Codes program output names n C names' → Codes program output names m C names'
codes_wider {program} {output} {names} {names'} m l h = record { grows = grows_then program output h.grows m (grows_none program output names' 0 h.grows.in_order) (omega arith); coded = h.coded }
