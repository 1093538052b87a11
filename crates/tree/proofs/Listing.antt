-- The listing: its entries are the live identifiers with their rows, each once, in the order of the label codes. Assumes nothing.
use mathlib.Core.Path.{◌≡◌, refl, sym, ap, ◌∙◌, subst}
use mathlib.Core.Logic.{◌≢◌, ◌⊎◌, inl, inr, ⊎_elim}
use mathlib.Core.Bool.{true, cond}
use mathlib.Core.List.{List, [], ◌∷◌, ◌++◌, map, append-nil, append_assoc, head-eq_of_cons-eq, tail-eq_of_cons-eq}
use Prim.Native.Nat.{ℕ, zero, suc, ◌-◌, ◌≤◌, ◌<◌}
use native.Mathlib.Omega.{arith}
use lib.ListN.{length}
use lib.Dec.{ltb, eqb}
use borrow.Author.Tests.{lt-ltb, le-ltb, ltb-true, ltb-false, eq-eqb, ne_eqb, eqb-false}
use Rattle.numbers.proofs.Cases.{same?}
use Rattle.rules.specs.WhatTheIndexDoes.{END, Profile, RoundTrip, is_identifier, labels}
use Rattle.rules.specs.Table.{Cells, Table, next, walk, lookup}
use Rattle.rules.specs.Listing.{Entry, entry, listed, spelt, tried, visited, entries}
use Rattle.rules.proofs.Choices.{branch}
use Rattle.tree.specs.Soundness.{Step, Held, a_leaf, an_inner, Tree, Sound}
use Rattle.tree.specs.Listed.{Before, InOrder}
use Rattle.tree.specs.Members.{Among, Once}
use Rattle.tree.proofs.Steps.{next_step}
use Rattle.tree.proofs.Trees.{row_low, row_pos, based_row, step_low, step_high, step_held, walk_pos}
use Rattle.tree.proofs.Identifiers.{spelt_codes, identifier_short, live_identifier}

-- ---- the label tried when n are left

module _ (P : Profile) where
  -- It is a label.
  pub listed_within : {n c : ℕ} → n ≢ 0 → n ≤ P.greatest → c ≡ listed P n → (1 ≤ c) × (c ≤ P.greatest)
  unfolding listed
  listed_within some h is = (omega arith, omega arith)

  -- Each label is tried at exactly one n.
  pub listed_once : (c : ℕ) → 1 ≤ c → c ≤ P.greatest →
      (n : ℕ) × (1 ≤ n) × (n ≤ P.greatest) × (listed P n ≡ c) × ((m : ℕ) → 1 ≤ m → m ≤ P.greatest → listed P m ≡ c → m ≡ n)
  unfolding listed
  listed_once c l h = (suc P.greatest - c, omega arith, omega arith, omega arith, λ m a b e. omega arith)

-- ---- lists of entries

before_other : (cs ds : List ℕ) → Before cs ds → cs ≢ ds
before_other cs [] b e = b
before_other [] (d ∷ ds) b e = b
before_other (c ∷ cs) (d ∷ ds) (inl l) e = omega (arith, head-eq_of_cons-eq e)
before_other (c ∷ cs) (d ∷ ds) (inr b) e = before_other cs ds b.1 (tail-eq_of_cons-eq e)

-- Labels that first differ in the code c and the greater code d.
before_after : (bs : List ℕ) {c d : ℕ} → c < d → (cs ds : List ℕ) → Before ((bs ++ (c ∷ [])) ++ cs) ((bs ++ (d ∷ [])) ++ ds)
before_after [] l cs ds = inl l
before_after (b ∷ bs) l cs ds = inr (refl, before_after bs l cs ds)

module _ (e : Entry) (fs : List Entry) where
  among_left : (es : List Entry) → Among e es → Among e (es ++ fs)
  among_left [] x' = elim x' [ ]
  among_left (f ∷ es) (inl p) = inl p
  among_left (f ∷ es) (inr a) = inr (among_left es a)

  among_right : (es : List Entry) → Among e fs → Among e (es ++ fs)
  among_right [] a = a
  among_right (f ∷ es) a = inr (among_right es a)

  among_either : (es : List Entry) → Among e (es ++ fs) → Among e es ⊎ Among e fs
  among_either [] a = inr a
  among_either (f ∷ es) (inl p) = inl (inl p)
  among_either (f ∷ es) (inr a) = ⊎_elim (λ b. inl (inr b)) inr (among_either es a)

-- An identifier of one of the entries.
key_among : (key : List ℕ) (es : List Entry) → Among key (map (λ (e : Entry). e.key) es) → (f : Entry) × Among f es × (key ≡ f.key)
key_among key [] a = absurd a
key_among key (f ∷ es) (inl p) = (f, inl refl, p)
key_among key (f ∷ es) (inr a) = let (g, b, q) = key_among key es a in (g, inr b, q)

in_order_once : (P : Profile) (es : List Entry) → InOrder P es → Once (map (λ (e : Entry). e.key) es)
in_order_once P [] p = tt
in_order_once P (e ∷ es) p = (
  λ a. let (f, b, q) = key_among e.key es a in
      before_other (labels P e.key) (labels P f.key) (p.0 f b) (ap (labels P) q),
  in_order_once P es p.1,
)

module _ (P : Profile) (T : Cells) where
  -- The entries es come before the entries fs.
  abbrev AllBefore : List Entry → List Entry → Type 0
  AllBefore es fs = (e f : Entry) → Among e es → Among f fs → Before (labels P e.key) (labels P f.key)

  in_order_append : (es fs : List Entry) → InOrder P es → InOrder P fs → AllBefore es fs → InOrder P (es ++ fs)
  in_order_append [] fs p q b = q
  in_order_append (e ∷ es) fs p q b =
      (λ f a. ⊎_elim (p.0 f) (b e f (inl refl)) (among_either f fs es a), in_order_append es fs p.1 q (λ d f a. b d f (inr a)))

  -- ---- the labels of a cell

  module _ (visit : ℕ → List ℕ → List Entry) (s : ℕ) (key : List ℕ) where
    -- The entries found under one label.
    abbrev under : ℕ → List Entry
    under c = cond (eqb (next T s c) 0) [] (visit (next T s c) (spelt P key c))

    tried_from : (e : Entry) (n : ℕ) → Among e (tried P visit T s key n) → (c : ℕ) × (listed P n ≤ c) × Among e (under c)
    unfolding tried listed
    tried_from e zero a = absurd a
    tried_from e (suc n) a =
        let now = listed P (suc n) in
        ⊎_elim (λ b. (now, omega arith, b)) (λ b. let (c, l, m) = tried_from e n b in (c, omega arith, m)) (among_either e _ (under now) a)

    tried_to : (e : Entry) (c : ℕ) → c ≤ P.greatest → Among e (under c) → (n : ℕ) → listed P n ≤ c → Among e (tried P visit T s key n)
    unfolding tried listed
    tried_to e c h a zero l = absurd (omega arith)
    tried_to e c h a (suc n) l =
        let now = listed P (suc n) in
        ⊎_elim (λ q. among_left e _ (under now) (subst (λ d. Among e (under d)) q a))
        (λ d. among_right e _ (under now) (tried_to e c h a n (omega arith))) (same? c now)

    module _ (each : (c : ℕ) → InOrder P (under c)) (apart : (c d : ℕ) → c < d → AllBefore (under c) (under d)) where
      tried_after : (c n : ℕ) → c < listed P n → AllBefore (under c) (tried P visit T s key n)
      tried_after c n h e f a b = let (d, l, m) = tried_from f n b in apart c d (omega arith) e f a m

      tried_in_order : (n : ℕ) → n ≤ P.greatest → InOrder P (tried P visit T s key n)
      unfolding tried listed
      tried_in_order zero h = tt
      tried_in_order (suc n) h =
          let now = listed P (suc n) in
          in_order_append (under now) (tried P visit T s key n) (each now) (tried_in_order n (omega arith)) (tried_after now n (omega arith))

  -- ---- a visit

  -- The labels cs, which the characters of key spell, lead to s.
  record Led (s : ℕ) (key cs : List ℕ) : Type 0 where
    pub to_leaf : 1 ≤ (T s).row → labels P key ≡ cs
    pub to_inner : (T s).row ≡ 0 → map P.code key ≡ cs

  -- The entry e is of a leaf below s, to which cs leads.
  record Found (s : ℕ) (cs : List ℕ) (e : Entry) : Type 0 where
    pub rest : List ℕ
    pub spells : labels P e.key ≡ cs ++ rest
    pub ends : (T (walk T s rest)).row ≡ e.row
    pub some : 1 ≤ e.row

  -- The entries es are what a visit of s may find, and in order.
  record Visit (s : ℕ) (cs : List ℕ) (es : List Entry) : Type 0 where
    pub found : (e : Entry) → Among e es → Found s cs e
    pub order : InOrder P es

  -- So are those of every visit to this depth.
  abbrev Visits : ℕ → Type 0
  Visits depth = (s : ℕ) (key cs : List ℕ) → Led s key cs → Visit s cs (visited P depth T s key)

  no_visit : {s : ℕ} {cs : List ℕ} → Visit s cs []
  no_visit = record { found = λ e a. absurd a; order = tt }

  found_leaf : {s : ℕ} {key cs : List ℕ} {e : Entry} → Led s key cs → 1 ≤ (T s).row → e ≡ entry key (T s).row → Found s cs e
  unfolding walk
  found_leaf {cs = cs} l h q = rw q (record { rest = []; spells = l.to_leaf h ∙ sym (append-nil cs); ends = refl; some = h })

  leaf_visit : {s : ℕ} {key cs : List ℕ} → Led s key cs → 1 ≤ (T s).row → Visit s cs (entry key (T s).row ∷ [])
  leaf_visit l h = record { found = λ e a. ⊎_elim (found_leaf l h) (λ b. absurd b) a; order = (λ f a. absurd a, tt) }

  found_on : (s c : ℕ) (cs : List ℕ) {e : Entry} → Found (next T s c) (cs ++ (c ∷ [])) e → Found s cs e
  unfolding walk
  found_on s c cs f = record { rest = c ∷ f.rest; spells = f.spells ∙ append_assoc cs (c ∷ []) f.rest; ends = f.ends; some = f.some }

  found_before : (cs : List ℕ) {s t c d : ℕ} {e f : Entry} → c < d → Found s (cs ++ (c ∷ [])) e → Found t (cs ++ (d ∷ [])) f →
      Before (labels P e.key) (labels P f.key)
  found_before cs l a b = rw (a.spells, b.spells) (before_after cs l a.rest b.rest)

  module _ (r : RoundTrip P) {size : ℕ} (w : Tree P T size) where
    spelt_on : (key : List ℕ) (c : ℕ) → 2 ≤ c → spelt P key c ≡ key ++ (P.character c ∷ [])
    unfolding spelt
    spelt_on key c h = rw (ne_eqb c END (λ e. omega arith))

    spelt_code : (key : List ℕ) (b : ℕ) → 1 ≤ P.code b → spelt P key (P.code b) ≡ key ++ (b ∷ [])
    spelt_code key b h = spelt_on key (P.code b) (r.unmarked b h) ∙ ap (λ a. key ++ (a ∷ [])) (r.back b h)

    led_on : {s c t : ℕ} {key cs : List ℕ} → Led s key cs → (T s).row ≡ 0 → Step T s c t → Held c (T t) → Led t (spelt P key c) (cs ++ (c ∷ []))
    unfolding labels spelt
    led_on {c = c} l z p (a_leaf e b v) =
        record { to_leaf = λ k. rw (eq-eqb c END e, l.to_inner z, e); to_inner = λ k. absurd (omega (arith, row_low v)) }
    led_on {c = c} {key = key} l z p (an_inner h b v) =
        record { to_leaf = λ k. absurd (omega arith); to_inner = λ k. rw (spelt_on key c h, spelt_codes r c h (step_high w p) key, l.to_inner z) }

    module _ (depth : ℕ) (below : Visits depth) {s : ℕ} {key cs : List ℕ} (l : Led s key cs) (z : (T s).row ≡ 0) where
      step_visit : (c : ℕ) → 1 ≤ next T s c → Visit (next T s c) (cs ++ (c ∷ [])) (visited P depth T (next T s c) (spelt P key c))
      step_visit c h = let p = next_step T {s = s} {c = c} h in below _ _ _ (led_on l z p (step_held w p))

      under_visit : (c : ℕ) → Visit (next T s c) (cs ++ (c ∷ [])) (under (visited P depth T) s key c)
      under_visit c = branch (Visit _ _) (eqb (next T s c) 0) (λ e. no_visit) (λ e. step_visit c (omega (arith, eqb-false (next T s c) 0 e)))

      under_before : (c d : ℕ) → c < d → AllBefore (under (visited P depth T) s key c) (under (visited P depth T) s key d)
      under_before c d h e f a b = found_before cs h ((under_visit c).found e a) ((under_visit d).found f b)

      tried_visit : Visit s cs (tried P (visited P depth T) T s key P.greatest)
      tried_visit = record {
        found = λ e a. let (c, h, m) = tried_from (visited P depth T) s key e P.greatest a in found_on s c cs ((under_visit c).found e m);
        order = tried_in_order (visited P depth T) s key (λ c. (under_visit c).order) under_before P.greatest (omega arith);
      }

    visited_visit : (depth : ℕ) → Visits depth
    unfolding visited
    visited_visit zero s key cs l = branch (Visit s cs) (ltb 0 (T s).row) (λ h. leaf_visit l (ltb-true _ _ h)) (λ h. no_visit)
    visited_visit (suc depth) s key cs l =
        let on = tried_visit depth (visited_visit depth) l in
        branch (Visit s cs) (ltb 0 (T s).row) (λ h. leaf_visit l (ltb-true _ _ h)) (λ h. on (omega (arith, ltb-false 0 (T s).row h)))

    entries_visit : Visit 1 [] (entries P T)
    unfolding entries
    entries_visit = visited_visit (suc P.limit) 1 [] [] (record { to_leaf = λ h. absurd (omega (arith, w.root_row)); to_inner = λ z. refl })

    -- ---- every live identifier is visited

    -- The row to which characters lead from s, or 0.
    abbrev row_from : ℕ → List ℕ → ℕ
    row_from s key = (T (walk T s (labels P key))).row

    visited_leaf : (depth s : ℕ) (key : List ℕ) → 1 ≤ (T s).row → Among (entry key (T s).row) (visited P depth T s key)
    unfolding visited
    visited_leaf zero s key h = rw (lt-ltb 0 (T s).row h) (inl refl)
    visited_leaf (suc depth) s key h = rw (lt-ltb 0 (T s).row h) (inl refl)

    visited_on : (depth s c : ℕ) (key : List ℕ) (e : Entry) → 1 ≤ next T s c →
        Among e (visited P depth T (next T s c) (spelt P key c)) → Among e (visited P (suc depth) T s key)
    unfolding visited listed
    visited_on depth s c key e h a =
        let p = next_step T {s = s} {c = c} h in
        let m : Among e (under (visited P depth T) s key c) = rw (ne_eqb (next T s c) 0 (λ e. omega arith)) a in
        let b = tried_to (visited P depth T) s key e c (step_high w p) m P.greatest (omega (arith, step_low w p)) in
        rw (le-ltb 0 (T s).row (omega (arith, based_row w s p.based))) b

    -- Characters that lead from s to a row, and are no more than the depth allows.
    visited_live : (depth s : ℕ) (key more : List ℕ) → length more < depth → 1 ≤ row_from s more →
        Among (entry (key ++ more) (row_from s more)) (visited P depth T s key)
    unfolding walk labels spelt
    visited_live zero s key more l h = absurd (omega arith)
    visited_live (suc depth) s key [] l h = visited_on depth s END key _ (row_pos w _ h) (rw append-nil (visited_leaf depth (next T s END) key h))
    visited_live (suc depth) s key (b ∷ bs) l h =
        let u = walk_pos w (next T s (P.code b)) (labels P bs) (row_pos w _ h) in
        let a = visited_live depth (next T s (P.code b)) (key ++ (b ∷ [])) bs (omega arith) h in
        visited_on depth s (P.code b) key _ u (rw (spelt_code key b (step_low w (next_step T u)), ← append_assoc key (b ∷ []) bs) a)

-- ---- the listing

module _ {P : Profile} (r : RoundTrip P) {t : Table} (w : Sound P t) where
  pub listed_live : (e : Entry) → Among e (entries P t.cells) →
      (is_identifier P e.key ≡ true) × (lookup P t.cells e.key ≡ e.row) × (1 ≤ e.row)
  unfolding lookup
  listed_live e a =
      let f = (entries_visit P t.cells r w.tree).found e a in
      let q = ap (λ (cs : List ℕ). (t.cells (walk t.cells 1 cs)).row) f.spells ∙ f.ends in
      (live_identifier w e.key (rw q f.some), q, f.some)

  pub live_listed : (key : List ℕ) → 1 ≤ lookup P t.cells key →
      Among (record { key = key; row = lookup P t.cells key }) (entries P t.cells)
  unfolding lookup entries
  live_listed key h =
      visited_live P t.cells r w.tree (suc P.limit) 1 [] key (omega (arith, identifier_short P key (live_identifier w key h))) h

  pub entries_in_order : InOrder P (entries P t.cells)
  entries_in_order = (entries_visit P t.cells r w.tree).order

  -- No identifier stands twice.
  pub entries_once : Once (map (λ (e : Entry). e.key) (entries P t.cells))
  entries_once = in_order_once P (entries P t.cells) entries_in_order
