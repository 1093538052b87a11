-- Marks and notes before the first cell is looked at. Assumes nothing.
use mathlib.Core.Path.{◌≡◌, refl, sym, ◌∙◌}
use mathlib.Core.Bool.{false, true≢false}
use mathlib.Core.List.{List}
use Prim.Native.Nat.{ℕ, zero, suc, ◌<◌}
use native.Mathlib.Omega.{arith}
use lib.ListN.{get_or, replicate, length-replicate}
use lib.IntN.{ℤ}
use Rattle.rules.specs.ASoundTable.{size_at}
use Rattle.audit.specs.Kept.{FirstKept}
use Rattle.audit.specs.Marks.{MarksPast}
use Rattle.audit.specs.Ways.{NotedBelow, FirstLook}
use Rattle.audit.proofs.Depths.{depth_root}

-- n times d reads as d, past the end too.
all_alike : {A : Type 0} (d : A) (n i : ℕ) → get_or (replicate n d) i d ≡ d
all_alike d zero i = refl
all_alike d (suc n) zero = refl
all_alike d (suc n) (suc i) = all_alike d n i

no_marks : (base check : List ℤ) (n : ℕ) → size_at base < n → MarksPast base check (size_at base) (replicate n false)
no_marks base check n h = record {
  long = rw length-replicate h;
  each = λ u past inside k. absurd (omega arith);
  only = λ s m. absurd (true≢false (sym m ∙ all_alike false n s));
}

-- The root's depth is 0.
no_notes : (check : List ℤ) (size n : ℕ) → size < n → NotedBelow check size 2 (replicate n 0)
no_notes check size n h = record {
  long = rw length-replicate h;
  each = λ u low below used. let e : u ≡ 1 = omega arith in rw (e, all_alike {A = ℕ} 0 n 1) (depth_root check);
}

-- With more marks and notes than the size, all false and all 0.
pub first_look : {base check : List ℤ} {size : ℕ} → FirstKept base check size → (n : ℕ) → size < n →
    FirstLook base check size (replicate n false) (replicate n 0)
first_look {base} {check} {size} f n h = record {
  first = f;
  marks = rw f.sized.is (no_marks base check n (omega arith));
  notes = no_notes check size n h;
}
