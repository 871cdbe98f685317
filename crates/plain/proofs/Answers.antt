-- The writer's two answers for a text that is read, from what its passes leave.
use mathlib.Core.Path.{◌≡◌, sym as inv, ap, ◌∙◌}
use mathlib.Core.Bool.{false}
use mathlib.Core.List.{[], ◌++◌, append-nil}
use Prim.Native.Nat.{ℕ, ◌+◌, ◌-◌, ◌≤◌, ◌<◌}
use native.Mathlib.Nat.{zero-add}
use native.Mathlib.Omega.{arith}
use lib.ListN.{length, take, drop}
use lib.Seq.{sets, sets-eq, drop-length, length-take-le}
use Rattle.std.specs.Prelude.{Ok, Err}
use Rattle.texts.specs.declared.refusal.Refusal.TheVariants.{ShortBuffer}
use Rattle.meaning.specs.Rules.{Bytes}
use Rattle.meaning.proofs.Sets.{nothing_long}
use Rattle.grammar.specs.Trees.{Program}
use Rattle.texts.specs.Place.{text_start}
use Rattle.plainform.specs.PlainBytes.{ReadAs, plain_bytes}
use Rattle.plainform.proofs.Theorems.{plain_no_longer}
use Rattle.plaintokens.specs.Put.{Put}
use Rattle.plaintokens.proofs.Puts.{put_length}
use Rattle.plain.specs.Answer.{WritesProgram, short, writes}

-- bytes that fill a part are what stands there
laid_whole : (part bytes : Bytes) → length bytes ≡ length part → sets part 0 bytes ≡ bytes
laid_whole part bytes e =
    let z : 0 + length bytes ≡ length part = omega arith in
    rw (z, drop-length part, append-nil bytes) at (sets-eq bytes part 0 (omega arith))

-- one pass, on a buffer that is as long as the text: the plain form is no longer
pub at_once : (text : Bytes) (c : Program false) → ReadAs text c → (buffer : Bytes) {n : ℕ} {left : Bytes} → length text ≤ length buffer → Put buffer 0 (plain_bytes c) n left → WritesProgram c buffer (Ok n) left
at_once text c r buffer h p =
    let f : length (plain_bytes c) ≤ length buffer = omega (arith, plain_no_longer text c r) in
    rw (p.laid, p.next, sets-eq (plain_bytes c) buffer 0 (omega arith), zero-add (length (plain_bytes c))) (writes f)

-- the first of two, on a part with no room, gives the length and leaves nothing
module _ (c : Program false) (buffer : Bytes) {n : ℕ} {part : Bytes} (p : Put [] 0 (plain_bytes c) n part) where
  untouched : part ++ buffer ≡ buffer
  untouched = rw (nothing_long part (put_length p))

  pub too_short : length (part ++ buffer) < n → WritesProgram c buffer (Err (record { refusal = ShortBuffer; place = text_start })) (part ++ buffer)
  too_short h = let e = ap length untouched in rw untouched (short (omega (arith, p.next)))

  -- the second, on a part of that length, fills it
  pub long_enough : {k : ℕ} {first : Bytes} → n ≤ length (part ++ buffer) → Put (take (n - 0) (part ++ buffer)) 0 (plain_bytes c) k first → WritesProgram c buffer (Ok n) (first ++ drop (n - 0) (part ++ buffer))
  long_enough {k} {first} h q =
      let e = ap length untouched in
      let s : n ≡ length (plain_bytes c) = omega (arith, p.next) in
      let m : n - 0 ≡ length (plain_bytes c) = omega arith in
      let f : length (plain_bytes c) ≤ length buffer = omega arith in
      let l : first ≡ plain_bytes c = q.laid ∙ laid_whole (take (n - 0) (part ++ buffer)) (plain_bytes c) (rw (m, untouched) (inv (length-take-le (length (plain_bytes c)) buffer f))) in
      rw (l, m, s, untouched) (writes f)
