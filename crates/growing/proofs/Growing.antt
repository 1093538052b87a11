-- How a branch grows: what each of its steps is asked, and what it leaves. Assumes nothing.
use mathlib.Core.Path.{◌≡◌, refl, sym, ap, ◌∙◌, fun_ext}
use mathlib.Core.Logic.{inl, ⊎_elim}
use mathlib.Core.Bool.{Bool, true, false, cond, ◌&&◌, ◌||◌, and-false}
use mathlib.Core.List.{List, [], ◌∷◌}
use Prim.Native.Nat.{ℕ, ◌+◌, ◌-◌, ◌≤◌, ◌<◌, max}
use native.Mathlib.Nat.{max-zero}
use native.Mathlib.Omega.{arith}
use lib.ListN.{length, set, length-set}
use lib.IntN.{ℤ}
use lib.Dec.{leb, ltb, eqb}
use borrow.Author.Tests.{le-leb, lt-leb, leb-true, ne_eqb}
use Rattle.std.specs.Prelude.{Option, Some, None, Result, Ok, Err}
use Rattle.std.specs.Result.{is_err}
use Rattle.numbers.specs.Stored.{plus_at, positive, negative}
use Rattle.rules.specs.declared.Refusal.{Refusal}
use Rattle.rules.specs.declared.Refusal.TheVariants.{NoRoom}
use Rattle.rules.specs.WhatTheIndexDoes.{GREATEST, document01, labels, last_cell}
use Rattle.rules.specs.ASoundTable.{size_at}
use Rattle.rules.specs.Table.{Content, Table, free, inner, leaf, update, used}
use Rattle.rules.specs.Placement.{greatest_of, placed, fits}
use Rattle.rules.specs.Insertion.{Course, grow}
use Rattle.rules.specs.Rendering.{base_holds}
use Rattle.tree.specs.Labels.{first_label, further_labels}
use Rattle.tree.proofs.UsedCells.{parent_used, unused_parent, unused_other}
use Rattle.tree.proofs.TidyTables.{tidy_past}
use Rattle.tree.proofs.Trees.{row_low}
use Rattle.tree.proofs.Placement.{placed_pos, placed_opens, placed_near, opens_each}
use Rattle.tree.proofs.OneCell.{update_at, update_off}
use Rattle.tree.proofs.Branches.{parent_same}
use Rattle.tree.proofs.Labels.{further_none}
use Rattle.cells.specs.Edits.{Shown, EveryTable, celled, holding, more, claimed, Claims}
use Rattle.placing.specs.Search.{Codes, Finds}
use Rattle.growing.specs.Branches.{Label, Leads, Grows, Begun, Grown, Retracts, growth, placed_first, retracted}
use Rattle.growing.proofs.Leaving.{fits_left, unfit_left}
use Rattle.cells.proofs.Shown.{shown_size, shown_small}
use Rattle.cells.proofs.Placed.{finds_placed}
use Rattle.cells.proofs.Holding.{held_each, base_stored}

-- ---- a cell more

module _ (t : Table) (u : ℕ) (x : Content) where
  -- What is put into a cell last is what it holds.
  update_twice : (y : Content) → update (update t.cells u x) u y ≡ update t.cells u y
  update_twice y = fun_ext (held_each (holding t u x) u y (λ v z. z ≡ update t.cells u y v) (sym (update_at t.cells u y))
      (λ v d. update_off t.cells u x v d ∙ sym (update_off t.cells u y v d)))

  more_back : t.cells u ≡ free → retracted (more t u x) u t.size ≡ t
  more_back e = ap (celled t) (update_twice free ∙ fun_ext (held_each t u free (λ v z. z ≡ t.cells v) (sym e) (λ v d. refl)))

-- ---- the cell to which the first label leads

module _ {base check : List ℤ} {s : ℕ} {rest : List ℕ} {t : Table} (g : Leads base check s rest t)
    {u : ℕ} (is : u ≡ (t.cells s).base + first_label document01 rest) where
  cell_unused : used t.cells u ≡ false
  cell_unused = rw is g.unused

  cell_free : t.cells u ≡ free
  cell_free = g.shown.table.blank u (unused_other t.cells u cell_unused) (unused_parent t.cells u cell_unused)

  cell_some : 1 ≤ u
  cell_some = omega (arith, g.based)

  cell_far : 2 ≤ u
  cell_far = let d = unused_other t.cells u cell_unused in omega (arith, cell_some)

  pub grow_claims : Claims base check u s t
  grow_claims = record {
    shown = g.shown;
    some = cell_some;
    fits = rw is g.fits;
    unused = cell_unused;
    parent = g.some;
    inside = g.inside;
  }

-- ---- the base placed for one label

pub one_code : {d : ℕ} → d ≤ GREATEST → Codes (d ∷ [])
one_code {d} h = record { some = omega arith; small = λ c m. ⊎_elim (λ (e : c ≡ d). rw e h) (λ z. absurd z) m }

-- An option by a test.
some_if : (b : Bool) {q x : ℕ} → ◌≡◌ {A = Option ℕ} (Some q) (cond b (Some x) None) → (b ≡ true) × (q ≡ x)
some_if true e = (refl, cc)
some_if false e = cc

none_if : (b : Bool) (x : ℕ) → ◌≡◌ {A = Option ℕ} None (cond b (Some x) None) → b ≡ false
none_if true x e = cc
none_if false x e = refl

-- What is sought from the arrays of t.
module _ {base check : List ℤ} {rest : List ℕ} {t : Table} (w : Shown base check t) {d q : ℕ} (label : Label rest d)
    (sought : Finds check (size_at base) (d ∷ []) q) where
  is_placed : q ≡ placed (used t.cells) t.size (d ∷ [])
  is_placed = finds_placed w (one_code label.small) sought

  pub first_small : q ≤ 65536
  first_small = omega (arith, is_placed, shown_small w, placed_near _ _ (tidy_past w.table) (d ∷ []))

  pub first_past : length base ≤ q + d → None ≡ placed_first (last_cell base) t rest
  first_past h =
      let past : last_cell base < q + d = omega (arith, is_placed, placed_pos (used t.cells) t.size (d ∷ [])) in
      rw (← label.is, ← is_placed, lt-leb (q + d) (last_cell base) past)

  pub first_placed : q + d < length base → Some q ≡ placed_first (last_cell base) t rest
  first_placed h = rw (← label.is, ← is_placed, le-leb (q + d) (last_cell base) (omega arith))

-- The labels behind the first.
behind_first : (b : ℕ) (further : List ℕ) →
    further_labels document01 (b ∷ further) ≡ first_label document01 further ∷ further_labels document01 further
unfolding labels first_label further_labels
behind_first b [] = refl
behind_first b (d ∷ rest) = refl

-- ---- the course, from the claimed cell u

module _ {base check : List ℤ} {s : ℕ} {rest : List ℕ} {row : ℕ} {t : Table} (a : Grows base check s rest row t)
    {u : ℕ} {base' check' : List ℤ} (k : Begun s rest t u base' check') where
  abbrev whole : Course
  whole = growth (last_cell base) t s rest row

  far : 2 ≤ u
  far = cell_far a.leads k.cell_is

  -- Another content in the cell.
  stored : (x : Content) → x.parent ≡ s → (1 ≤ x.row → x.base ≡ 0) → Shown (set base' u (base_holds x)) check' (more t u x)
  stored x p kind =
      let e = update_at t.cells u (inner s 0) in
      rw (update_twice t u (inner s 0) x) at
      (base_stored k.shown u x (omega (arith, far)) (parent_used _ u (rw e a.leads.some)) (rw e p) kind)

  -- With no label behind it, it becomes the leaf.
  pub grow_ended : length rest ≡ 0 → {base'' : List ℤ} → base'' ≡ set base' u (negative row) →
      Grown whole t (Ok tt) base'' check'
  unfolding grow base_holds
  grow_ended h e = rw (further_none document01 rest (omega arith), ← k.cell_is, e) (record {
    fitted = refl;
    left = rw (ne_eqb row 0 (λ z. omega (arith, row_low a.row_is))) at (stored (leaf s row) refl (λ l. refl));
  })

  -- It can be taken back, whatever its base is.
  module _ {size : ℕ} (reads : size ≡ plus_at base 0) (b : ℕ) {base'' check'' : List ℤ}
      (w : Shown base'' check'' (more t u (inner s b))) where
    size_is : size ≡ t.size
    size_is = reads ∙ shown_size a.leads.shown

    retracts : Retracts base'' check'' u size (more t u (inner s b))
    unfolding used
    retracts = record {
      shown = w;
      far = far;
      parent = rw (update_at t.cells u (inner s b)) a.leads.some;
      some = rw size_is a.leads.shown.table.some;
      less = omega (arith, size_is);
      past = λ v h d. rw (update_off t.cells u (inner s b) v d) (tidy_past a.leads.shown.table v (omega (arith, size_is)));
    }

    restored : {base''' check''' : List ℤ} →
        EveryTable (Retracts base'' check'' u size) (λ r. Shown base''' check''' (retracted r u size)) → Shown base''' check''' t
    restored f = rw (size_is, more_back t u (inner s b) (cell_free a.leads k.cell_is)) at (f (more t u (inner s b)) retracts)

  pub grow_retracts : {size : ℕ} → size ≡ plus_at base 0 → Retracts base' check' u size (claimed t u s)
  grow_retracts reads = retracts reads 0 k.shown

  -- Its base does not matter to what is used.
  used_more : (b : ℕ) → used (more t u (inner s b)).cells ≡ used (claimed t u s).cells
  unfolding used
  used_more b = fun_ext (λ v. ap (λ p. eqb v 1 || ltb 0 p) (parent_same t.cells u (inner s b) (inner s 0) refl v))

  -- The labels behind it are those of further.
  module _ {b : ℕ} {further : List ℕ} (split : rest ≡ b ∷ further) (long : length base' ≡ length base) where
    abbrev d : ℕ
    d = first_label document01 further

    abbrev q : ℕ
    q = placed (used (claimed t u s).cells) (max t.size u) (d ∷ [])

    -- The course from that cell on.
    abbrev on : Course
    on = growth (last_cell base) (more t u (inner s q)) u further row

    course_on : whole ≡ record { table = on.table; fitted = leb (q + d) (last_cell base) && on.fitted; count = 0 }
    unfolding grow fits greatest_of
    course_on = rw (ap (further_labels document01) split ∙ behind_first b further, ← k.cell_is, used_more 1, max-zero)

    -- It does not fit.
    refused : {base'' check'' : List ℤ} → (leb (q + d) (last_cell base) && on.fitted) ≡ false → Shown base'' check'' t →
        Grown whole t (Err NoRoom) base'' check''
    refused e w = rw course_on (rw e (record { fitted = refl; left = w }))

    last_same : last_cell base' ≡ last_cell base
    last_same = ap (λ n. n - 1) long

    pub grow_past : None ≡ placed_first (last_cell base') (claimed t u s) further → {size : ℕ} → size ≡ plus_at base 0 →
        {base'' check'' : List ℤ} →
        EveryTable (Retracts base' check' u size) (λ r. Shown base'' check'' (retracted r u size)) →
        Grown whole t (Err NoRoom) base'' check''
    grow_past e reads f = refused (rw (none_if _ _ (rw last_same at e)) refl) (restored reads 0 k.shown f)

    -- It fits, and becomes the cell's base.
    module _ {p : ℕ} (found : Some p ≡ placed_first (last_cell base') (claimed t u s) further) where
      base_is : p ≡ q
      base_is = (some_if _ found).1

      within : q + d ≤ last_cell base
      within = leb-true _ _ (rw last_same at (some_if _ found).0)

      pub placed_small : p ≤ 65536
      placed_small = omega (arith, base_is, shown_small k.shown, placed_near _ _ (tidy_past k.shown.table) (d ∷ []))

      module _ {base'' : List ℤ} (put : base'' ≡ set base' u (positive p)) where
        last_still : last_cell base'' ≡ last_cell base
        last_still = rw put (simp length-set (ap (λ n. n - 1) long))

        pub grow_onward : Grows base'' check' u further row (more t u (inner s q))
        unfolding base_holds
        grow_onward =
            let e : ((more t u (inner s q)).cells u).base ≡ q = ap (λ x. x.base) (update_at t.cells u (inner s q)) in
            record {
              leads = record {
                shown = rw (put, base_is) (stored (inner s q) refl (λ l. absurd (omega arith)));
                some = omega (arith, far);
                inside = omega arith;
                based = rw e (placed_pos _ _ _);
                unused = rw (e, used_more q) (opens_each _ (d ∷ []) _ d (placed_opens _ _ (tidy_past k.shown.table) (d ∷ [])) (inl refl));
                fits = rw (e, last_still) within;
              };
              row_is = a.row_is;
            }

        module _ {r : Result (Unit {0}) Refusal} {base''' check''' : List ℤ} (f : EveryTable (Grows base'' check' u further row)
            (λ m. Grown (growth (last_cell base'') m u further row) m r base''' check''')) where
          left : Grown on (more t u (inner s q)) r base''' check'''
          left = rw last_still at (f _ grow_onward)

          pub grow_fitted : is_err r ≡ false → Grown whole t r base''' check'''
          grow_fitted e =
              let (fitted, shown) = fits_left left e in
              rw (course_on, le-leb _ _ within) (record { fitted = left.fitted; left = rw fitted shown })

          -- The table is as it was before the rest of the course.
          module _ (e : is_err r ≡ true) {size : ℕ} (reads : size ≡ plus_at base 0) where
            pub grow_gives_up : Retracts base''' check''' u size (more t u (inner s q))
            grow_gives_up = retracts reads q (unfit_left left e).1

            pub grow_unfitted : {base'''' check'''' : List ℤ} →
                EveryTable (Retracts base''' check''' u size) (λ r. Shown base'''' check'''' (retracted r u size)) →
                Grown whole t r base'''' check''''
            grow_unfitted g =
                let (fitted, shown) = unfit_left left e in
                rw (left.fitted, fitted) (refused (rw (fitted, and-false)) (restored reads q shown g))
