-- `shrink` writes 0 into the cells past n. Assumes nothing.
use Rattle.std.proofs.Common.{◌≡◌, ℕ, set, ◌+◌, ◌-◌, ◌≤◌, ◌<◌, List, length, take, drop, replicate, length-take-le, length-drop, add-one, ap, ◌∙◌, arith, rules}
use Rattle.std.proofs.lemmas.List.{places, length-replicate}
use lib.IntN.{ℤ}
use borrow.Rule.Slice.PartMut.{put_mid}
use Rattle.numbers.specs.Stored.{positive, plus_at}
use Rattle.rules.specs.Table.{Table}
use Rattle.cells.specs.Edits.{Shown, sized, Shrinks}
use Rattle.cells.proofs.Shown.{shown_size, shown_lengths, shown_long, shown_small, check_element}
use Rattle.cells.proofs.Resizing.{check_narrower, show_sized}
use Rattle.cells.proofs.shrink.Goals as goal

module _ {base check : List ℤ} {n size : ℕ} {t : Table} (a : Shrinks base check n t) (e : size ≡ plus_at base 0) where
  size_is : size ≡ t.size
  size_is = e ∙ shown_size a.shown

  inside : size < length check
  inside = omega (arith, size_is, shown_long a.shown, shown_lengths a.shown)

  below : n ≤ size
  below = omega (arith, size_is, a.less)

  part_long : length (take (size + 1 - (n + 1)) (drop (n + 1) check)) ≡ size - n
  part_long = omega (arith, length-take-le (size + 1 - (n + 1)) (drop (n + 1) check) (omega (arith, length-drop (n + 1) check, inside)))

  ends : (part : List ℤ) → part ≡ replicate (length (take (size + 1 - (n + 1)) (drop (n + 1) check))) (positive 0) →
      Shown (set base 0 (positive n)) (put_mid (n + 1) (size + 1 - (n + 1)) check part) (sized t n)
  ends part p =
      let d : size + 1 - (n + 1) ≡ size - n = omega arith in
      let long : length part ≡ size - n = ap length p ∙ length-replicate _ (positive 0) ∙ part_long in
      let l : n + 1 ≤ length check = omega (arith, below, inside) in
      let m : size < length check = inside in
      show_sized t n a.past a.shown a.some (omega (arith, a.less, a.shown.fits)) (search (rules, places))
      (rw (d, p, part_long, add-one) (check_narrower t n a.past size check below inside (rw size_is (check_element a.shown))))

pub slice_bounds-fill-count : goal.slice_bounds-fill-count
slice_bounds-fill-count c = let (t, a) = c.requires in omega (arith, below a c.at-size.ensures.is)

pub slice_bounds-fill-start : goal.slice_bounds-fill-start
slice_bounds-fill-start c =
    let (t, a) = c.requires in
    let l = below a c.at-size.ensures.is in
    let m = inside a c.at-size.ensures.is in
    search rules

pub slice_bounds-fill-end : goal.slice_bounds-fill-end
slice_bounds-fill-end c =
    let (t, a) = c.requires in
    let l = below a c.at-size.ensures.is in
    let m = inside a c.at-size.ensures.is in
    search rules

pub put-requires : goal.put-requires
put-requires c = let (t, a) = c.requires in omega (arith, a.less, shown_small a.shown)

pub returns : goal.returns
returns c t a = rw c.put.ensures (ends a c.at-size.ensures.is c.fill.new.self (c.fill.ensures.after (λ y e. e)))
