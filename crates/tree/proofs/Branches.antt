-- One cell more below a node, and a whole branch: the row stands at the new path, every other row as before. Assumes nothing.
use mathlib.Core.Path.{◌≡◌, refl, sym, ap, ◌∙◌}
use mathlib.Core.Logic.{◌≢◌, inl, ⊎_elim}
use mathlib.Core.Bool.{true, false}
use mathlib.Core.List.{List, [], ◌∷◌, reverse_aux}
use Prim.Native.Nat.{ℕ, ◌+◌, ◌≤◌, max}
use native.Mathlib.Omega.{arith}
use Rattle.numbers.proofs.Cases.{same?}
use Rattle.rules.specs.WhatTheIndexDoes.{END, Profile, is_row}
use Rattle.rules.specs.Table.{Content, Cells, Table, free, inner, leaf, update, used, node}
use Rattle.rules.specs.Placement.{placed}
use Rattle.rules.specs.Insertion.{grow}
use Rattle.tree.specs.Soundness.{Step, Held, a_leaf, an_inner, row_at, Fruit, Sits, Tree}
use Rattle.tree.specs.Moved.{Still}
use Rattle.tree.specs.AfterAnEdit.{Meant}
use Rattle.tree.proofs.Steps.{step_next}
use Rattle.tree.proofs.UsedCells.{unused_parent}
use Rattle.tree.proofs.Trees.{past_unused, based_pos, one_path}
use Rattle.tree.proofs.Placement.{placed_pos, placed_opens, opens_each}
use Rattle.tree.proofs.OneCell.{update_at, update_off, OneMore, path_more, row_other, row_inner, fruit_more, tree_more}

-- ---- one cell

-- The code c leads from s to an unused cell.
pub record Place (P : Profile) (T : Cells) (s c : ℕ) : Type 0 where
  pub based : 1 ≤ (T s).base
  pub low : 1 ≤ c
  pub high : c ≤ P.greatest
  pub clear : (T ((T s).base + c)).parent ≡ 0

-- The content x can be put there.
pub record Puts (P : Profile) (T : Cells) (s c : ℕ) (x : Content) : Type 0 where
  pub place : Place P T s c
  pub under : x.parent ≡ s
  pub held : Held c x

module _ {P : Profile} {T : Cells} {size : ℕ} (w : Tree P T size) {s c : ℕ} {x : Content} (a : Puts P T s c x) where
  -- The cell, and the table with it.
  abbrev pub put : ℕ
  put = (T s).base + c

  abbrev pub Put : Cells
  Put = update T put x

  put_far : 2 ≤ put
  put_far = omega (arith, a.place.based, a.place.low)

  put_one : OneMore T Put put
  put_one = record {
    far = put_far;
    same = update_off T put x;
    gone = gone;
    nowhere = w.nowhere;
    alone = λ u e. ⊎_elim (λ f. own u f e) (other u e) (same? u put);
  }
    where
      gone : T put ≡ free
      gone = w.blank put (λ e. omega (arith, put_far)) a.place.clear

      own : (u : ℕ) → u ≡ put → (Put u).parent ≢ put
      own u f e =
          let v : s ≡ put = sym a.under ∙ sym (ap (λ y. y.parent) (update_at T put x)) ∙ ap (λ (z : ℕ). (Put z).parent) (sym f) ∙ e in
          omega (arith, a.place.based, ap (λ (z : ℕ). (T z).base) v, ap (λ y. y.base) gone)

      other : (u : ℕ) → (Put u).parent ≡ put → u ≢ put → ⊥
      other u e d =
          let f : (T u).parent ≡ put = sym (ap (λ y. y.parent) (update_off T put x u d)) ∙ e in
          omega (arith, (w.sits u (rw f (omega (arith, put_far)))).step.based, ap (λ (z : ℕ). (T z).base) f, ap (λ y. y.base) gone)

  s_off : s ≢ put
  s_off e = put_one.alone put (ap (λ y. y.parent) (update_at T put x) ∙ a.under ∙ e)

  put_step : Step Put s c put
  put_step =
      let e = update_off T put x s s_off in
      record { based = rw e a.place.based; at = rw e; back = ap (λ y. y.parent) (update_at T put x) ∙ a.under }

  put_sits : Sits P Put put
  put_sits = record {
    code = c;
    step = rw put_step.back put_step;
    low = a.place.low;
    high = a.place.high;
    held = rw (update_at T put x) a.held;
  }

  put_tree : Tree P Put (max size put)
  put_tree = tree_more put_one (max size put) (omega arith) (omega arith) put_sits w

  put_path : (path : List ℕ) → node T path ≡ s → node Put (c ∷ path) ≡ put
  unfolding node
  put_path path e = rw (path_more put_one path e (based_pos w s a.place.based)) (step_next Put put_step)

  put_fruit : Fruit T s → Fruit Put put
  put_fruit = fruit_more put_one s c put_step

  -- With a leaf put every inner cell has a child.
  leaf_fruit : x.base ≡ 0 → Fruit T s → Fruit Put 0
  leaf_fruit z f u d h k = put_fruit f u (λ e. omega (arith, ap (λ (y : ℕ). (Put y).base) e, ap (λ y. y.base) (update_at T put x))) h k

  put_inner : x.row ≡ 0 → (path : List ℕ) → row_at Put path ≡ row_at T path
  put_inner z = row_inner put_one (rw (update_at T put x) z)

  put_here : (path : List ℕ) → node T path ≡ s → row_at Put (c ∷ path) ≡ x.row
  put_here path e = ap (λ (u : ℕ). (Put u).row) (put_path path e) ∙ ap (λ y. y.row) (update_at T put x)

  put_other : (path : List ℕ) → node T path ≡ s → (r : List ℕ) → r ≢ c ∷ path → row_at Put r ≡ row_at T r
  put_other path e r d = row_other put_one r (λ f. d (one_path put_tree r (c ∷ path) f (put_path path e) (omega (arith, put_far))))

-- ---- a branch

-- The labels from a node to a leaf: codes of characters, then the end mark.
abbrev pub Word : Profile → ℕ → List ℕ → Type 0
Word P c [] = c ≡ END
Word P c (d ∷ cs) = (2 ≤ c) × (c ≤ P.greatest) × Word P d cs

pub word_low : (P : Profile) (c : ℕ) (cs : List ℕ) → Word P c cs → 1 ≤ c
word_low P c [] e = omega arith
word_low P c (d ∷ cs) k = omega (arith, k.0)

pub word_high : (P : Profile) (c : ℕ) (cs : List ℕ) → 1 ≤ P.greatest → Word P c cs → c ≤ P.greatest
word_high P c [] h e = omega arith
word_high P c (d ∷ cs) h k = k.1

-- A cell's base does not matter to what is used.
pub parent_same : (T : Cells) (t : ℕ) (x y : Content) → x.parent ≡ y.parent → (u : ℕ) → (update T t x u).parent ≡ (update T t y u).parent
parent_same T t x y e u = ⊎_elim own (λ d. rw (update_off T t x u d, update_off T t y u d)) (same? u t)
  where
    own : u ≡ t → (update T t x u).parent ≡ (update T t y u).parent
    own f = rw (f, update_at T t x, update_at T t y) e

pub grow_count : (last : ℕ) (T : Cells) (size s c : ℕ) (cs : List ℕ) (n : ℕ) → (grow last T size s c cs n).count ≡ 0
unfolding grow
grow_count last T size s c [] n = refl
grow_count last T size s c (d ∷ cs) n = refl

-- It is T with a branch more: every node of T stands where it was.
pub record Grown (P : Profile) (T : Cells) (path : List ℕ) (n : ℕ) (R : Table) : Type 0 where
  pub meant : Meant P T path n R
  pub still : Still T R.cells

module _ {P : Profile} (some : 1 ≤ P.greatest) (last n : ℕ) (row : is_row n ≡ true) where
  -- The place of the next label, below the cell t, whose base is q.
  further : (T : Cells) (t s q d : ℕ) (ds : List ℕ) → Word P d ds → used (update T t (inner s 1)) (q + d) ≡ false → 1 ≤ q →
      Place P (update T t (inner s q)) t d
  further T t s q d ds wd e h =
      let f : (update T t (inner s q) t).base ≡ q = ap (λ x. x.base) (update_at T t (inner s q)) in
      record {
        based = rw f h;
        low = word_low P d ds wd;
        high = word_high P d ds some wd;
        clear = rw f (parent_same T t (inner s q) (inner s 1) refl (q + d) ∙ unused_parent (update T t (inner s 1)) (q + d) e);
      }

  pub grow_grown : (cs : List ℕ) (c : ℕ) {T : Cells} {size s : ℕ} (path : List ℕ) → Tree P T size → Word P c cs → node T path ≡ s →
      Place P T s c → Fruit T s → Grown P T (reverse_aux (c ∷ cs) path) n (grow last T size s c cs n).table
  unfolding grow
  grow_grown [] c {T} {size} {s} path w wd e p fruit =
      let a : Puts P T s c (leaf s n) = record { place = p; under = refl; held = a_leaf wd refl row } in
      record {
        meant = record { tree = put_tree w a; here = put_here w a path e; else = put_other w a path e; fruit = leaf_fruit w a refl fruit };
        still = λ r h. path_more (put_one w a) r refl h;
      }
  grow_grown (d ∷ cs) c {T} {size} {s} path w wd e p fruit =
      let t = (T s).base + c in
      let a : (b : ℕ) → 1 ≤ b → Puts P T s c (inner s b) = λ b h. record { place = p; under = refl; held = an_inner wd.0 h refl } in
      let one = update T t (inner s 1) in
      let past = past_unused (put_tree w (a 1 (omega arith))) in
      let q = placed (used one) (max size t) (d ∷ []) in
      let q_pos = placed_pos (used one) (max size t) (d ∷ []) in
      let w' = a q q_pos in
      let q_opens = opens_each (used one) (d ∷ []) q d (placed_opens (used one) (max size t) past (d ∷ [])) (inl refl) in
      let next = further T t s q d cs wd.2 q_opens q_pos in
      let g = grow_grown cs d (c ∷ path) (put_tree w w') wd.2 (put_path w w' path e) next (put_fruit w w' fruit) in
      let m = g.meant in
      record {
        meant = record { tree = m.tree; here = m.here; fruit = m.fruit; else = λ r ne. m.else r ne ∙ put_inner w w' refl r };
        still = λ r h. let k = path_more (put_one w w') r refl h in g.still r (rw k h) ∙ k;
      }
