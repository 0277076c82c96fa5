-- The laws of `part`, `put` and `replaced`: the same place, places apart, lengths, puts one after the other, and parts
-- that were lent.
-- Assumes nothing.
use Prim.Native.Nat.{ℕ, zero, suc, ◌+◌, ◌-◌, ◌≤◌, ◌<◌}
use mathlib.Core.Path.{◌≡◌, refl, sym, ap, ◌∙◌}
use mathlib.Core.List.{List, [], ◌∷◌, ◌++◌, append-nil}
use native.Mathlib.Decide.{dec_lt}
use native.Mathlib.Numerals.{add-one}
use native.Mathlib.Omega.{arith}
use lib.ListN.{length, take, drop, set, get_or, length-take, length-drop, length-append, get_or-append, drop_of_length-le}
use lib.Seq.{take-take, drop-drop, get_or-take, get_or-drop, get_or-append-add, length-take-le, ext_get_or, set_split}
use borrow.Rule.Slice.PartMut.{put_mid}
use borrow.Author.Tests.{eq-eqb}
use Rattle.formats.specs.Part.{part, put, replaced}

pub part_length : (a n : ℕ) (l : List ℕ) → a + n ≤ length l → length (part l a n) ≡ n
part_length a n l h = simp (length-take, length-drop) (omega arith)

pub part_most : (a n : ℕ) (l : List ℕ) → length (part l a n) ≤ n
part_most a n l = simp length-take (omega arith)

pub get_or_part : (l : List ℕ) (a n i : ℕ) → i < n → get_or (part l a n) i 0 ≡ get_or l (a + i) 0
get_or_part l a n i h = get_or-take n (drop a l) i 0 h ∙ get_or-drop a l i 0

-- a part of the first w bytes is a part of the whole
part_of_front : (a n w : ℕ) (l : List ℕ) → a + n ≤ w → take n (drop a (take w l)) ≡ take n (drop a l)
part_of_front zero n w l h = take-take n w l (omega arith)
part_of_front (suc a) n zero l h = absurd (omega arith)
part_of_front (suc a) n (suc w) [] h = refl
part_of_front (suc a) n (suc w) (b ∷ l) h = part_of_front a n w l (omega arith)

pub part_inside : (l : List ℕ) (a n w : ℕ) → a + n ≤ w → part (part l 0 w) a n ≡ part l a n
part_inside l a n w h = part_of_front a n w l h

module _ (l p : List ℕ) (a : ℕ) (within : a + length p ≤ length l) where
  front : length (take a l) ≡ a
  front = length-take-le a l (omega arith)

  pub put_length : length (put l a p) ≡ length l
  unfolding put
  put_length = simp (length-append, length-take, length-drop) (omega arith)

  pub get_or_put_before : (i : ℕ) → i < a → get_or (put l a p) i 0 ≡ get_or l i 0
  unfolding put
  get_or_put_before i h = get_or-append (take a l) (p ++ drop (a + length p) l) 0 i (omega (arith, front)) ∙ get_or-take a l i 0 h

  pub get_or_put_in : (i : ℕ) → i < length p → get_or (put l a p) (a + i) 0 ≡ get_or p i 0
  unfolding put
  get_or_put_in i h =
      ap (λ (k : ℕ). get_or (take a l ++ (p ++ drop (a + length p) l)) (k + i) 0) (sym front)
      ∙ get_or-append-add (take a l) (p ++ drop (a + length p) l) i 0
      ∙ get_or-append p (drop (a + length p) l) 0 i h

  after : (k : ℕ) → get_or (put l a p) (a + (length p + k)) 0 ≡ get_or l (a + (length p + k)) 0
  unfolding put
  after k =
      ap (λ (m : ℕ). get_or (take a l ++ (p ++ drop (a + length p) l)) (m + (length p + k)) 0) (sym front)
      ∙ get_or-append-add (take a l) (p ++ drop (a + length p) l) (length p + k) 0
      ∙ get_or-append-add p (drop (a + length p) l) k 0
      ∙ get_or-drop (a + length p) l k 0
      ∙ ap (λ (m : ℕ). get_or l m 0) (let e : a + length p + k ≡ a + (length p + k) = omega arith in e)

  pub get_or_put_after : (i : ℕ) → a + length p ≤ i → get_or (put l a p) i 0 ≡ get_or l i 0
  get_or_put_after i h =
      let e : i ≡ a + (length p + (i - (a + length p))) = omega arith in
      rw e (after (i - (a + length p)))

  pub part_put_same : (n : ℕ) → length p ≡ n → part (put l a p) a n ≡ p
  part_put_same n e =
      ext_get_or 0 (part (put l a p) a n) p (part_length a n (put l a p) (omega (arith, put_length)) ∙ sym e)
      (λ i h.
      let j : i < n = omega (arith, part_length a n (put l a p) (omega (arith, put_length))) in
      get_or_part (put l a p) a n i j ∙ get_or_put_in i (omega arith))

  -- a part that lies beside what was put
  apart : (b m : ℕ) → b + m ≤ length l → ((i : ℕ) → i < m → get_or (put l a p) (b + i) 0 ≡ get_or l (b + i) 0) → part (put l a p) b m ≡ part l b m
  apart b m h same =
      let x : length (part (put l a p) b m) ≡ m = part_length b m (put l a p) (omega (arith, put_length)) in
      ext_get_or 0 (part (put l a p) b m) (part l b m) (x ∙ sym (part_length b m l h))
      (λ i j.
      let k : i < m = omega (arith, x) in
      get_or_part (put l a p) b m i k ∙ same i k ∙ sym (get_or_part l b m i k))

  pub part_put_before : (b m : ℕ) → b + m ≤ a → part (put l a p) b m ≡ part l b m
  part_put_before b m h = apart b m (omega arith) (λ i k. get_or_put_before (b + i) (omega arith))

  pub part_put_after : (b m : ℕ) → b + m ≤ length l → a + length p ≤ b → part (put l a p) b m ≡ part l b m
  part_put_after b m w h = apart b m w (λ i k. get_or_put_after (b + i) (omega arith))

-- a list that has the length of l, p from place a on, and l's elements elsewhere, is `put l a p`
pub is_put : (l p : List ℕ) (a : ℕ) (m : List ℕ) → a + length p ≤ length l → length m ≡ length l
    → ((i : ℕ) → i < a → get_or m i 0 ≡ get_or l i 0)
    → ((i : ℕ) → i < length p → get_or m (a + i) 0 ≡ get_or p i 0)
    → ((i : ℕ) → a + length p ≤ i → get_or m i 0 ≡ get_or l i 0)
    → m ≡ put l a p
is_put l p a m w e before inside after-it =
    ext_get_or 0 m (put l a p) (e ∙ sym (put_length l p a w)) (λ i h. at i (dec_lt i a) (dec_lt i (a + length p)))
  where
    at : (i : ℕ) → Dec (i < a) → Dec (i < a + length p) → get_or m i 0 ≡ get_or (put l a p) i 0
    at i (yes x) _ = before i x ∙ sym (get_or_put_before l p a w i x)
    at i (no x) (yes y) =
        let k : i ≡ a + (i - a) = omega arith in
        rw k (inside (i - a) (omega arith) ∙ sym (get_or_put_in l p a w (i - a) (omega arith)))
    at i (no x) (no y) = after-it i (omega arith) ∙ sym (get_or_put_after l p a w i (omega arith))

-- two puts at places apart, in either order
pub puts_apart : (l p q : List ℕ) (a b : ℕ) → a + length p ≤ b → b + length q ≤ length l → put (put l a p) b q ≡ put (put l b q) a p
puts_apart l p q a b h w =
    let x : a + length p ≤ length l = omega arith in
    let n : length (put l a p) ≡ length l = put_length l p a x in
    let m : length (put l b q) ≡ length l = put_length l q b w in
    is_put (put l b q) p a (put (put l a p) b q) (omega arith) (put_length (put l a p) q b (omega arith) ∙ n ∙ sym m)
    (λ i k. get_or_put_before (put l a p) q b (omega arith) i (omega arith) ∙ get_or_put_before l p a x i k ∙ sym (get_or_put_before l q b w i (omega arith)))
    (λ i k. get_or_put_before (put l a p) q b (omega arith) (a + i) (omega arith) ∙ get_or_put_in l p a x i k)
    (λ i k. beyond n i k (dec_lt i b) (dec_lt i (b + length q)))
  where
    beyond : length (put l a p) ≡ length l → (i : ℕ) → a + length p ≤ i → Dec (i < b) → Dec (i < b + length q) → get_or (put (put l a p) b q) i 0 ≡ get_or (put l b q) i 0
    beyond n i k (yes u) _ =
        get_or_put_before (put l a p) q b (omega arith) i u ∙ get_or_put_after l p a (omega arith) i k ∙ sym (get_or_put_before l q b w i u)
    beyond n i k (no u) (yes v) =
        let e : i ≡ b + (i - b) = omega arith in
        rw e (get_or_put_in (put l a p) q b (omega arith) (i - b) (omega arith) ∙ sym (get_or_put_in l q b w (i - b) (omega arith)))
    beyond n i k (no u) (no v) =
        get_or_put_after (put l a p) q b (omega arith) i (omega arith) ∙ get_or_put_after l p a (omega arith) i k ∙ sym (get_or_put_after l q b w i (omega arith))

-- a put after another, at the place where that one ended
pub put_next : (l p q : List ℕ) (a : ℕ) → a + (length p + length q) ≤ length l → put (put l a p) (a + length p) q ≡ put l a (p ++ q)
put_next l p q a w =
    let x : a + length p ≤ length l = omega arith in
    let n : length (put l a p) ≡ length l = put_length l p a x in
    let e : length (p ++ q) ≡ length p + length q = length-append p q in
    is_put l (p ++ q) a (put (put l a p) (a + length p) q) (omega arith) (put_length (put l a p) q (a + length p) (omega arith) ∙ n)
    (λ i k. get_or_put_before (put l a p) q (a + length p) (omega arith) i (omega arith) ∙ get_or_put_before l p a x i k)
    (λ i k. inside n i (omega arith) (dec_lt i (length p)))
    (λ i k. get_or_put_after (put l a p) q (a + length p) (omega arith) i (omega arith) ∙ get_or_put_after l p a x i (omega arith))
  where
    inside : length (put l a p) ≡ length l → (i : ℕ) → i < length p + length q → Dec (i < length p) → get_or (put (put l a p) (a + length p) q) (a + i) 0 ≡ get_or (p ++ q) i 0
    inside n i k (yes u) =
        get_or_put_before (put l a p) q (a + length p) (omega arith) (a + i) (omega arith)
        ∙ get_or_put_in l p a (omega arith) i u
        ∙ sym (get_or-append p q 0 i u)
    inside n i k (no u) =
        let e : a + i ≡ a + length p + (i - length p) = omega arith in
        let f : i ≡ length p + (i - length p) = omega arith in
        ap (λ (z : ℕ). get_or (put (put l a p) (a + length p) q) z 0) e
        ∙ get_or_put_in (put l a p) q (a + length p) (omega arith) (i - length p) (omega arith)
        ∙ sym (get_or-append-add p q (i - length p) 0)
        ∙ ap (λ (z : ℕ). get_or (p ++ q) z 0) (sym f)

-- all of a list replaced
pub put_whole : (l p : List ℕ) → length p ≡ length l → put l 0 p ≡ p
unfolding put
put_whole l p e = ap (λ (z : List ℕ). p ++ z) (drop_of_length-le l {i = 0 + length p} (omega arith)) ∙ append-nil p

-- a store is a put of one byte
pub set_put : (l : List ℕ) (i v : ℕ) → i < length l → set l i v ≡ put l i (v ∷ [])
unfolding put
set_put l i v h = set_split l i v h ∙ ap (λ (k : ℕ). take i l ++ (v ∷ drop k l)) (sym (add-one i))

-- a part that was lent as `&l[a..a + n]`
pub lent : (a n : ℕ) (l : List ℕ) → a + n ≤ length l → (take ((a + n) - a) (drop a l) ≡ part l a n) × (length (take ((a + n) - a) (drop a l)) ≡ n)
lent a n l h =
    let e : (a + n) - a ≡ n = omega arith in
    let f : take ((a + n) - a) (drop a l) ≡ part l a n = ap (λ (k : ℕ). take k (drop a l)) e in
    (f, ap length f ∙ part_length a n l h)

-- a part that was lent as `&mut l[a..e]`, with p left in it
pub back : (a n : ℕ) (l p : List ℕ) → length p ≡ n → put_mid a n l p ≡ put l a p
unfolding put
back a n l p e = ap (λ (z : List ℕ). take a l ++ (p ++ z)) (drop-drop n a l ∙ ap (λ (k : ℕ). drop (a + k) l) (sym e))

-- a part that was lent with the length that its writer asks for
pub replaced_whole : (n : ℕ) (new old : List ℕ) → length old ≡ n → replaced n new old ≡ new
replaced_whole n new old e = simp (eq-eqb (length old) n e)
