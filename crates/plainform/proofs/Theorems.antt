-- What holds of the plain form of every program that a text is read as. The statements stand at the end.
use mathlib.Core.Path.{◌≡◌, refl}
use mathlib.Core.Bool.{true, false}
use mathlib.Core.List.{List, []}
use Prim.Native.Nat.{ℕ, ◌≤◌}
use native.Mathlib.Omega.{arith}
use lib.ListN.{length}
use Rattle.tokens.specs.Tokens.{tokens_from}
use Rattle.reading.specs.Reading.{Placed, tokens, unplaced, Within, Answer, tree, Reading, read, wrong, short, over}
use Rattle.meaning.specs.Rules.{Bytes}
use Rattle.grammar.specs.Tokens.{Token}
use Rattle.grammar.specs.Trees.{Program}
use Rattle.grammar.specs.Spelling.{spell}
use Rattle.grammar.specs.Sizes.{programs}
use Rattle.grammar.specs.Abstraction.{rules_for}
use Rattle.grammar.specs.PlainForm.{plain_form}
use Rattle.grammar.specs.Writing.{comparison_bytes, sign_bytes, token_bytes, written}
use Rattle.grammar.proofs.Plainer.{All}
use Rattle.grammar.proofs.Apart.{program_apart}
use Rattle.grammar.proofs.PlainTheorems.{plain_reads, plain_same, plain_twice, plain_shorter, plain_kept}
use Rattle.syntax.specs.Text.{placed_from, end_of}
use Rattle.plainform.specs.PlainBytes.{ReadAs, plain_bytes}
use Rattle.plainform.proofs.Proper.{comparison_kind, sign_kind, kind_for, Proper}
use Rattle.plainform.proofs.Again.{tokens_again}
use Rattle.plainform.proofs.Inside.{program_not_stray, all_proper, written_inside}

-- a reading that is a tree has the tree's tokens, within the sizes
was_read : {P : Type 0} (end : P) (ts : List (Placed P Token)) (a : Answer P (Program false)) → Reading programs end ts a → (c : Program false) → a ≡ tree c → (tokens (spell c) ≡ unplaced ts) × Within programs [] (spell c)
was_read end ts a (read d e w) c h = let z : d ≡ c = cc in rw (← z) (e, w)
was_read end ts a (wrong before t after e b n) c h = let z : ◌≡◌ {A = ℕ} 0 1 = cc in absurd (omega arith)
was_read end ts a (short b n) c h = let z : ◌≡◌ {A = ℕ} 0 1 = cc in absurd (omega arith)
was_read end ts a (over before t after e b m g n f) c h = let z : ◌≡◌ {A = ℕ} 0 1 = cc in absurd (omega arith)

module _ (text : Bytes) (c : Program false) (r : ReadAs text c) where
  -- the text's tokens are the tree's
  pub tokens_read : tokens (spell c) ≡ unplaced (placed_from false text 0)
  tokens_read = (was_read (end_of text) (placed_from false text 0) (tree c) r c refl).0

  within : Within programs [] (spell c)
  within = (was_read (end_of text) (placed_from false text 0) (tree c) r c refl).1

  -- the bytes of each token are a token of its kind
  proper : All Proper (tokens (spell c))
  proper = rw tokens_read (all_proper text (tokens_from true text 0) 0 refl (rw (← tokens_read) (program_not_stray c)))

  plain_proper : All Proper (tokens (spell (plain_form c)))
  unfolding kind_for sign_kind comparison_kind token_bytes sign_bytes comparison_bytes
  plain_proper = plain_kept c Proper refl proper

  shorter_tokens : length (written (tokens (spell c))) ≤ length text
  shorter_tokens =
      let h = written_inside text (tokens_from true text 0) 0 refl (rw (← tokens_read) (program_not_stray c)) (rw (← tokens_read) (program_apart c)) in
      let l : length (written (tokens (spell c))) ≡ length (written (unplaced (placed_from false text 0))) = rw tokens_read in
      omega arith

  -- ---- the statements

  -- the tokens of the plain form's bytes are its own
  pub tokens_of_plain : unplaced (placed_from false (plain_bytes c) 0) ≡ tokens (spell (plain_form c))
  tokens_of_plain = tokens_again (plain_bytes c) (tokens (spell (plain_form c))) 0 refl plain_proper

  -- they are read as the plain form
  pub plain_read : ReadAs (plain_bytes c) (plain_form c)
  plain_read = plain_reads c (end_of (plain_bytes c)) (placed_from false (plain_bytes c) 0) tokens_of_plain within

  -- so as the same rules
  pub plain_rules : rules_for (plain_form c) ≡ rules_for c
  plain_rules = plain_same c

  -- writing them again gives the same bytes
  pub plain_again : plain_bytes (plain_form c) ≡ plain_bytes c
  plain_again = rw (plain_twice c)

  -- they are no longer than the text
  pub plain_no_longer : length (plain_bytes c) ≤ length text
  plain_no_longer = let h = plain_shorter c in let l = shorter_tokens in omega arith
