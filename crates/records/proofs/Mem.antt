-- The memory of four-word records keeps what is written, and the records' order decides every pair: so the laws of queues hold of it.
use mathlib.Core.Path.{◌≡◌, ap, ◌∙◌}
use mathlib.Core.Logic.{◌≢◌}
use mathlib.Core.List.{List}
use Prim.Native.Nat.{ℕ, ◌+◌, ◌*◌, ◌/◌, ◌%◌, ◌<◌}
use native.Mathlib.Omega.{arith}
use lib.ListN.{length, get_or, set, length-set}
use lib.Seq.{get_or-set_same, get_or-set_other}
use Rattle.order.specs.Order.{Order}
use Rattle.order.specs.Heap.{Store}
use Rattle.order.proofs.LexLaws.{by_key}
use Rattle.records.specs.declared.Rec.{Rec}
use Rattle.records.specs.Records.{get_r, put_r, cap_r, before, key}

pub length_put_r : (m : List ℕ) (i : ℕ) (r : Rec) → length (put_r m i r) ≡ length m
unfolding put_r
length_put_r m i r = simp length-set

-- four stores, read back
module _ (m : List ℕ) (a : ℕ) (x y z v : ℕ) (fits : a + 3 < length m) where
  abbrev one : List ℕ
  one = set m a x

  abbrev two : List ℕ
  two = set one (a + 1) y

  abbrev three : List ℕ
  three = set two (a + 2) z

  abbrev four : List ℕ
  four = set three (a + 3) v

  at_0 : get_or four a 0 ≡ x
  at_0 =
      get_or-set_other three (a + 3) a v 0 (omega arith) ∙ get_or-set_other two (a + 2) a z 0 (omega arith) ∙ get_or-set_other one (a + 1) a y 0 (omega arith)
      ∙ get_or-set_same m a x 0 (omega arith)

  at_1 : get_or four (a + 1) 0 ≡ y
  at_1 =
      get_or-set_other three (a + 3) (a + 1) v 0 (omega arith) ∙ get_or-set_other two (a + 2) (a + 1) z 0 (omega arith)
      ∙ get_or-set_same one (a + 1) y 0 (simp length-set (omega arith))

  at_2 : get_or four (a + 2) 0 ≡ z
  at_2 = get_or-set_other three (a + 3) (a + 2) v 0 (omega arith) ∙ get_or-set_same two (a + 2) z 0 (simp length-set (omega arith))

  at_3 : get_or four (a + 3) 0 ≡ v
  at_3 = get_or-set_same three (a + 3) v 0 (simp length-set (omega arith))

  at_else : (j : ℕ) → j ≢ a → j ≢ a + 1 → j ≢ a + 2 → j ≢ a + 3 → get_or four j 0 ≡ get_or m j 0
  at_else j p q r s =
      get_or-set_other three (a + 3) j v 0 s ∙ get_or-set_other two (a + 2) j z 0 r ∙ get_or-set_other one (a + 1) j y 0 q ∙ get_or-set_other m a j x 0 p

module _ (m : List ℕ) (i : ℕ) (r : Rec) (h : i < cap_r m) where
  fits : 4 * i + 3 < length m
  fits = omega arith

  put_same : get_r (put_r m i r) i ≡ r
  unfolding get_r put_r
  put_same = λ k. record {
    id = at_0 m (4 * i) r.id r.present r.terminal r.rank fits k;
    present = at_1 m (4 * i) r.id r.present r.terminal r.rank fits k;
    terminal = at_2 m (4 * i) r.id r.present r.terminal r.rank fits k;
    rank = at_3 m (4 * i) r.id r.present r.terminal r.rank fits k;
  }

  else_where : (n j : ℕ) → n < 4 → j ≢ i → get_or (put_r m i r) (4 * j + n) 0 ≡ get_or m (4 * j + n) 0
  unfolding put_r
  else_where n j b d = at_else m (4 * i) r.id r.present r.terminal r.rank fits (4 * j + n) (omega arith) (omega arith) (omega arith) (omega arith)

  put_other : (j : ℕ) → j ≢ i → get_r (put_r m i r) j ≡ get_r m j
  unfolding get_r
  put_other j d =
      let z : 4 * j ≡ 4 * j + 0 = omega arith in
      let first : get_or (put_r m i r) (4 * j) 0 ≡ get_or m (4 * j) 0 = rw z (else_where 0 j (omega arith) d) in
      λ k. record { id = first k; present = else_where 1 j (omega arith) d k; terminal = else_where 2 j (omega arith) d k; rank = else_where 3 j (omega arith) d k }

pub store : Store get_r put_r cap_r
store = record { same = put_same; other = λ m i j r h d. put_other m i r h j d; kept = λ m i r. ap (λ (n : ℕ). n / 4) (length_put_r m i r) }

key_inj : (x y : Rec) → key x ≡ key y → x ≡ y
unfolding key
key_inj x y e = λ k. record { id = a k; present = b k; terminal = d k; rank = f k }
  where
    part : ℕ → List ℕ → ℕ
    part n l = get_or l n 0

    a : x.id ≡ y.id
    a = ap (part 1) e

    b : x.present ≡ y.present
    b = ap (part 3) e

    d : x.terminal ≡ y.terminal
    d = ap (part 4) e

    f : x.rank ≡ y.rank
    f =
        let g : x.rank / 8 ≡ y.rank / 8 = ap (part 0) e in
        let h : x.rank % 8 ≡ y.rank % 8 = ap (part 2) e in
        omega arith

pub order : Order before
unfolding before
order = by_key key key_inj
