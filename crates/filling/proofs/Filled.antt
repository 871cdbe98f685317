-- A part of the store that is written: what stands there then, and that all else is as it was.
use mathlib.Core.Path.{◌≡◌, sym, ap, ◌∙◌}
use mathlib.Core.List.{List}
use Rattle.std.specs.Prelude.{Option, Result}
use Prim.Native.Nat.{ℕ, ◌+◌, ◌-◌, ◌≤◌}
use native.Mathlib.Omega.{arith}
use lib.ListN.{length, take, drop, length-take}
use lib.Seq.{take_at, drop_at, drop-drop}
use borrow.Rule.Slice.PartMut.{post_of, put_mid, mid_len, same_len_mid, take_put, drop_put}
use Rattle.meaning.specs.Rules.{Bytes}
use Rattle.tables.specs.Stored.{with_row, Kept}
use Rattle.tables.proofs.Stored.{put_kept_of, put_part_of, kept_part}
use Rattle.chains.specs.Links.{Linked}
use Rattle.clashes.specs.declared.Clashing.{Clashing}
use Rattle.clashes.specs.Clashes.{FirstClash}
use Rattle.texts.specs.declared.refusal.Refused.{Refused}
use Rattle.store.specs.Store.{store_size, facts_in, literals_in, links_in}
use Rattle.filling.specs.Filling.{facts_size, RulesRead, RulesFilled, FactsFilled}

module _ (a e : ℕ) (store part : List ℕ) (low : a ≤ e) (high : e ≤ length store) (fits : length part ≡ e - a) where
  pub put_kept : Kept a e store (put_mid a (e - a) store part)
  put_kept = record { long = same_len_mid a (e - a) store part (fits ∙ sym (mid_len a e store high)); before = take_put a (e - a) store part (omega arith); behind = drop_put a e store part low high fits }

  pub put_there : take (e - a) (drop a (put_mid a (e - a) store part)) ≡ part
  put_there =
      let long : length (take a store) ≡ a = omega (arith, length-take a store) in
      ap (take (e - a)) (drop_at (take a store) _ a long) ∙ take_at part (post_of a (e - a) store) (e - a) fits

module _ {a b : ℕ} {store store' : List ℕ} (k : Kept a b store store') where
  pub kept_behind : (n at : ℕ) → b ≤ at → take n (drop at store') ≡ take n (drop at store)
  kept_behind n at h =
      let split : b + (at - b) ≡ at = omega arith in
      let same : drop at store' ≡ drop at store = ap (λ (i : ℕ). drop i store') (sym split) ∙ sym (drop-drop (at - b) b store') ∙ ap (drop (at - b)) k.behind ∙ drop-drop (at - b) b store ∙ ap (λ (i : ℕ). drop i store) split in
      ap (take n) same

-- ---- rules, then facts and chains

module _ (program output : Bytes) (names rules store : List ℕ) (r : Result ℕ Refused) (names' rules' store' : List ℕ) (long : length store ≡ store_size) (read : RulesRead program output names rules store r names' rules' store') where
  pub store_long : length store' ≡ store_size
  store_long = read.kept.long ∙ long

  rules_fit : length rules ≡ 10_240 → 65_536 + length rules' ≤ length store'
  rules_fit wide = omega (arith, read.rules_long, store_long)

  pub rules_filled : length rules ≡ 10_240 → RulesFilled program output names store r names' (with_row store' 65_536 rules')
  rules_filled wide =
      let size : length rules' ≡ 10_240 = read.rules_long ∙ wide in
      let kept = put_kept_of store' 65_536 rules' (rules_fit wide) 10_240 size in
      let same : literals_in (with_row store' 65_536 rules') ≡ literals_in store' = kept_part kept 56_320 9_216 (omega arith) in
      record { long = kept.long ∙ store_long; rules_before = rules; reads = rw (put_part_of store' 65_536 rules' (rules_fit wide) 10_240 size, same) read.reads }

module _ (facts : List ℕ) (count : ℕ) (store : List ℕ) (long : length store ≡ store_size) (wide : length facts ≡ facts_size) where
  facts_fit : 0 + length facts ≤ length store
  facts_fit = omega arith

  module _ (store' : List ℕ) (e : store' ≡ with_row store 0 facts) where
    kept : Kept 0 facts_size store store'
    kept = rw e (put_kept_of store 0 facts facts_fit facts_size wide)

    put : facts_in store' ≡ facts
    put = rw e (put_part_of store 0 facts facts_fit facts_size wide)

    module _ (store'' : List ℕ) (linked : Linked (links_in store'') facts count) (kept' : Kept 75_776 store_size store' store'') (r : Option Clashing) (clash : (names : List Bytes) → FirstClash names facts count r) where
      pub facts_filled : FactsFilled facts count store store'' r
      facts_filled =
          record {
            long = kept'.long ∙ kept.long ∙ long;
            facts_are = kept_part kept' facts_size 0 (omega arith) ∙ put;
            literals_are = kept_part kept' 56_320 9_216 (omega arith) ∙ kept_behind kept 56_320 9_216 (omega arith);
            rules_are = kept_part kept' 10_240 65_536 (omega arith) ∙ kept_behind kept 10_240 65_536 (omega arith);
            linked = linked;
            clash = clash;
          }
