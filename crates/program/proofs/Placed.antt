-- The part of a refusal is a part of the program, with the line and the column of its start.
use mathlib.Core.Path.{◌≡◌, refl, sym as inv}
use mathlib.Core.Bool.{false}
use Prim.Native.Nat.{ℕ}
use Rattle.texts.specs.Place.{Stands}
use Rattle.texts.proofs.Counting.{start_stands}
use Rattle.meaning.specs.Rules.{Bytes}
use Rattle.stages.specs.Parts.{program, Part, in_text}
use Rattle.stages.specs.Stage.{stop, stops, goes, given, first, fault}
use Rattle.stages.proofs.Unique.{on_stop}
use Rattle.rule_places.proofs.Inside.{position_stands, refused_stands}
use Rattle.program.specs.Stage.{ProgramStage}

pub record Placed (text : Bytes) (p : Part) : Type 0 where
  pub within : p ≡ in_text program p.place
  pub stands : Stands text p.place

pub refused_placed : (text : Bytes) (n : ℕ) (p : Part) → ProgramStage text (stop n p) → Placed text p
refused_placed text n p (stops _ _ (given h)) = record { within = refl; stands = start_stands text }
refused_placed text n p (goes u _ s (stops _ _ (fault _ q h))) = record { within = refl; stands = refused_stands false text n q h }
refused_placed text n p (goes u _ s (goes c _ r (stops _ _ (first i _ x f)))) = record { within = refl; stands = position_stands false text i }
refused_placed text n p (goes u _ s (goes c _ r (goes v _ w e))) = absurd (on_stop (inv e))
