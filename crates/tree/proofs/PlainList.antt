-- Laws of the plain list: what it holds after an entry is put before it, or an identifier is taken out. Assumes nothing.
use mathlib.Core.Path.{◌≡◌, refl, sym, ap, ap₂, ◌∙◌}
use mathlib.Core.Logic.{◌≢◌, inl, inr, ⊎_elim}
use mathlib.Core.Bool.{true, false, cond, true≢false}
use mathlib.Core.List.{List, [], ◌∷◌}
use Prim.Native.Nat.{ℕ}
use lib.Dec.{eqb}
use borrow.Author.Tests.{eq-eqb, eqb-true}
use Rattle.rules.specs.Listing.{Entry}
use Rattle.rules.proofs.Choices.{branch, fails, both}
use Rattle.tree.specs.ThePlainList.{same_key, row_in, without}
use Rattle.tree.specs.Members.{Among}

-- ---- identifiers

same_key_lem : (j k : List ℕ) → same_key j k ≡ true → j ≡ k
unfolding same_key
same_key_lem [] [] e = refl
same_key_lem [] (d ∷ ds) e = absurd (true≢false (sym e))
same_key_lem (c ∷ cs) [] e = absurd (true≢false (sym e))
same_key_lem (c ∷ cs) (d ∷ ds) e =
    let (h, hs) = both (eqb c d) (same_key cs ds) e in
    ap₂ ◌∷◌ (eqb-true c d h) (same_key_lem cs ds hs)

key_same : (k : List ℕ) → same_key k k ≡ true
unfolding same_key
key_same [] = refl
key_same (c ∷ cs) = rw (eq-eqb c c refl, key_same cs)

key_other : (j k : List ℕ) → j ≢ k → same_key j k ≡ false
key_other j k d = fails (same_key j k) (λ e. d (same_key_lem j k e))

-- ---- an entry more

module _ (e : Entry) (es : List Entry) where
  pub put_own : row_in (e ∷ es) e.key ≡ e.row
  unfolding row_in
  put_own = rw (key_same e.key)

  pub put_else : (j : List ℕ) → j ≢ e.key → row_in (e ∷ es) j ≡ row_in es j
  unfolding row_in
  put_else j d = rw (key_other e.key j (λ f. d (sym f)))

-- ---- an identifier less

pub without_own : (es : List Entry) (k : List ℕ) → row_in (without es k) k ≡ 0
unfolding row_in without
without_own [] k = refl
without_own (e ∷ es) k = branch (λ (l : List Entry). row_in l k ≡ 0) (same_key e.key k)
    (λ f. without_own es k) (λ f. rw f (without_own es k))

pub without_else : (es : List Entry) (k j : List ℕ) → j ≢ k → row_in (without es k) j ≡ row_in es j
unfolding row_in without
without_else [] k j d = refl
without_else (e ∷ es) k j d = branch (λ (l : List Entry). row_in l j ≡ row_in (e ∷ es) j) (same_key e.key k)
    (λ f. without_else es k j d ∙ sym (put_else e es j (λ v. d (v ∙ same_key_lem e.key k f))))
    (λ f. ap (cond (same_key e.key j) e.row) (without_else es k j d))

-- ---- what is in the list

-- A fact of the row held for an identifier, from the fact of each entry's row, and of 0 where no entry is the identifier's.
pub row_in_lem : (F : ℕ → Type 0) (es : List Entry) (k : List ℕ) → ((e : Entry) → Among e es → e.key ≡ k → F e.row) →
    (((e : Entry) → Among e es → e.key ≢ k) → F 0) → F (row_in es k)
unfolding row_in
row_in_lem F [] k each none = none (λ e a. absurd a)
row_in_lem F (f ∷ es) k each none = branch F (same_key f.key k)
    (λ s. each f (inl refl) (same_key_lem f.key k s))
    (λ s. row_in_lem F es k (λ e a. each e (inr a)) (λ out. none (λ e. ⊎_elim (own s e) (out e))))
  where
    own : same_key f.key k ≡ false → (e : Entry) → e ≡ f → e.key ≢ k
    own s e g h = true≢false (sym (key_same k) ∙ sym (ap (λ (j : List ℕ). same_key j k) (sym (ap (λ (x : Entry). x.key) g) ∙ h)) ∙ s)
