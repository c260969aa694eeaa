-- A message that comes part by part: one byte more, a part more, and that the digest of what came is that of the message.
-- Assumes nothing.
use Rattle.std.proofs.Common.{◌≡◌, ℕ, zero, suc, ◌+◌, ◌-◌, ◌*◌, ◌/◌, ◌%◌, ◌^◌, ◌<◌, ◌≤◌, cond, eqb, ◌≢◌, List, [], ◌∷◌, ◌++◌, length, take, drop, set, replicate, sym, refl, ap, ◌∙◌, subst, ap₂, append-nil, le_of_suc-le-suc, not-suc-le-zero, add-one, arith, length-append, length-drop, length-set, drop_of_length-le, take_all, take-suc, take-suc-set, eq-eqb, ne_eqb}
use mathlib.Core.Logic.{by_cases}
use native.Mathlib.Nat.{div-div-eq-div-mul}
use native.Mathlib.Decide.{dec_lt}
use Rattle.std.specs.Int.{w64, to_be_bytes}
use lib.Seq.{append_snoc, take-append-le, drop-append-le}
use Rattle.octets.specs.Octets.{at}
use Rattle.sha1_block.specs.declared.Five.{Five}
use Rattle.sha1_block.specs.Sha1Block.{compressed}
use Rattle.sha1_digest.specs.declared.Running.{Running}
use Rattle.sha1_digest.specs.Sha1.{eight_bytes, zeros, padding, padded, block_at, hashed, digest, sha1, hash_begun, fed_byte, fed, final_hash, finished}

pub running :
    {h h' : Five} {b b' : List ℕ} {t t' : ℕ} → h ≡ h' → b ≡ b' → t ≡ t'
    → ◌≡◌ {A = Running} (record { hash = h; block = b; total = t }) (record { hash = h'; block = b'; total = t' })
running p q r = cc

-- a part and then another are both as one
pub fed_append : (r : Running) (l m : List ℕ) → fed (fed r l) m ≡ fed r (l ++ m)
unfolding fed
fed_append r [] m = refl
fed_append r (b ∷ l) m = fed_append (fed_byte r b) l m

pub full : (place : ℕ) (x y : Five) {h : Five} → place ≡ 63 → h ≡ x → h ≡ cond (eqb place 63) x y
full place x y e p = p ∙ sym (simp (eq-eqb place 63 e))

pub not_full : (place : ℕ) (x y : Five) {h : Five} → place ≢ 63 → h ≡ y → h ≡ cond (eqb place 63) x y
not_full place x y e p = p ∙ sym (simp (ne_eqb place 63 e))

-- one byte more of a part, which is in its block, and counted last
pub fed_more :
    (start : Running) (part : List ℕ) (i : ℕ) {r s : Running} → i < length part → (length r.block ≡ 64) × (r ≡ fed start (take i part))
    → let place = r.total % 64 in
    let block = set r.block place (at part i) in
    ◌≡◌ {A = Running} s (record { hash = cond (eqb place 63) (compressed r.hash block) r.hash; block = block; total = r.total })
    → (length s.block ≡ 64)
    × (◌≡◌ {A = Running} (record { hash = s.hash; block = s.block; total = (s.total + 1) % 2 ^ 64 }) (fed start (take (i + 1) part)))
unfolding fed fed_byte
fed_more start part i {r} {s} l p q = (
  ap (λ (x : Running). length x.block) q ∙ length-set r.block (r.total % 64) (at part i) ∙ p.0,
  ap (λ (x : Running). let y : Running = record { hash = x.hash; block = x.block; total = (x.total + 1) % 2 ^ 64 } in y) q
      ∙ ap (λ (x : Running). fed_byte x (at part i)) p.1 ∙ fed_append start (take i part) (at part i ∷ [])
      ∙ ap (fed start) (sym (ap (λ (n : ℕ). take n part) (add-one i) ∙ take-suc part i 0 l)),
)

pub fed_all :
    (start : Running) (part : List ℕ) (i : ℕ) {r : Running} → length part ≤ i → r ≡ fed start (take i part) → r ≡ fed start part
fed_all start part i l p = p ∙ ap (fed start) (take_all i part l)

-- the blocks of a message are those of what it begins with
hashed_front : (x y : List ℕ) (n : ℕ) → 64 * n ≤ length x → hashed (x ++ y) n ≡ hashed x n
unfolding hashed
hashed_front x y zero h = refl
hashed_front x y (suc n) h =
    let e : 64 * suc n ≡ 64 * n + 64 = omega arith in
    let l = length-drop (64 * n) x in
    ap₂ compressed (hashed_front x y n (omega arith))
    (ap (take 64) (drop-append-le (64 * n) x y (omega arith)) ∙ take-append-le 64 (drop (64 * n) x) y (omega arith))

-- what a message has come to
pub record Came (m : List ℕ) (r : Running) : Type 0 where
  pub counted : r.total ≡ length m % 2 ^ 64
  pub sized : length r.block ≡ 64
  pub hashed_so : r.hash ≡ hashed m (length m / 64)
  pub begun_block : take (length m % 64) r.block ≡ drop (64 * (length m / 64)) m

came_none : Came [] hash_begun
unfolding hashed
came_none = record { counted = refl; sized = refl; hashed_so = refl; begun_block = refl }

module _ (m : List ℕ) (r : Running) (b : ℕ) (came : Came m r) where
  counted_place : r.total % 64 ≡ length m % 64
  counted_place =
      let c = came.counted in
      omega arith

  longer : length (m ++ (b ∷ [])) ≡ length m + 1
  longer = length-append m (b ∷ [])

  -- the byte at the end of the block that is being filled
  filled : take (suc (length m % 64)) (set r.block (r.total % 64) b) ≡ drop (64 * (length m / 64)) (m ++ (b ∷ []))
  filled =
      let s = came.sized in
      ap (λ (k : ℕ). take (suc (length m % 64)) (set r.block k b)) counted_place
      ∙ take-suc-set r.block (length m % 64) b (omega arith) ∙ ap (λ (l : List ℕ). l ++ (b ∷ [])) came.begun_block
      ∙ sym (drop-append-le (64 * (length m / 64)) m (b ∷ []) (omega arith))

  front : hashed (m ++ (b ∷ [])) (length m / 64) ≡ r.hash
  front = hashed_front m (b ∷ []) (length m / 64) (omega arith) ∙ sym came.hashed_so

  counts : (r.total + 1) % 2 ^ 64 ≡ length (m ++ (b ∷ [])) % 2 ^ 64
  counts =
      let c = came.counted in
      let l = longer in
      omega arith

  came_within : length m % 64 < 63 → Came (m ++ (b ∷ [])) (fed_byte r b)
  unfolding fed_byte
  came_within h =
      let c = counted_place in
      let l = longer in
      let e : length m / 64 ≡ length (m ++ (b ∷ [])) / 64 = omega arith in
      let f : length (m ++ (b ∷ [])) % 64 ≡ suc (length m % 64) = omega arith in
      let n : r.total % 64 ≢ 63 = λ z. omega arith in
      record {
        counted = counts;
        sized = length-set r.block (r.total % 64) b ∙ came.sized;
        hashed_so = sym (not_full (r.total % 64) (compressed r.hash (set r.block (r.total % 64) b)) r.hash n refl)
            ∙ sym front ∙ ap (hashed (m ++ (b ∷ []))) e;
        begun_block = ap (λ (k : ℕ). take k (set r.block (r.total % 64) b)) f ∙ filled
            ∙ ap (λ (k : ℕ). drop (64 * k) (m ++ (b ∷ []))) e;
      }

  came_full : length m % 64 ≡ 63 → Came (m ++ (b ∷ [])) (fed_byte r b)
  unfolding fed_byte hashed
  came_full h =
      let c = counted_place in
      let l = longer in
      let block = set r.block (r.total % 64) b in
      let s : length block ≡ 64 = length-set r.block (r.total % 64) b ∙ came.sized in
      let e : suc (length m / 64) ≡ length (m ++ (b ∷ [])) / 64 = omega arith in
      let f : length (m ++ (b ∷ [])) % 64 ≡ 0 = omega arith in
      let g : suc (length m % 64) ≡ 64 = omega arith in
      let x : block ≡ block_at (m ++ (b ∷ [])) (length m / 64) =
      sym (ap (take 64) (sym filled ∙ ap (λ (k : ℕ). take k block) g ∙ take_all 64 block (omega arith)) ∙ take_all 64 block (omega arith)) in
      record {
        counted = counts;
        sized = s;
        hashed_so = sym (full (r.total % 64) (compressed r.hash block) r.hash (c ∙ h) refl)
            ∙ ap₂ compressed (sym front) x ∙ ap (hashed (m ++ (b ∷ []))) e;
        begun_block = ap (λ (k : ℕ). take k block) f
            ∙ sym (drop_of_length-le (m ++ (b ∷ [])) {i = 64 * (length (m ++ (b ∷ [])) / 64)} (omega arith));
      }

  came_byte : Came (m ++ (b ∷ [])) (fed_byte r b)
  came_byte = by_cases (dec_lt (length m % 64) 63) came_within (λ h. came_full (omega (arith, h)))

came_on : (m l : List ℕ) (r : Running) → Came m r → Came (m ++ l) (fed r l)
unfolding fed
came_on m [] r came = subst (λ (x : List ℕ). Came x r) (sym (append-nil m)) came
came_on m (b ∷ l) r came =
    subst (λ (x : List ℕ). Came x (fed (fed_byte r b) l)) (append_snoc m b l) (came_on (m ++ (b ∷ [])) l (fed_byte r b) (came_byte m r b came))

-- the padding goes by the count, which is the length up to a multiple of 2 ^ 64
padding_counted : (n : ℕ) → padding (n % 2 ^ 64) ≡ padding n
unfolding padding
padding_counted n =
    let e : (n % 2 ^ 64) % 64 ≡ n % 64 = omega arith in
    let f : 8 * (n % 2 ^ 64) % 2 ^ 64 ≡ 8 * n % 2 ^ 64 = omega arith in
    ap₂ (λ (p x : ℕ). (0x80 ∷ replicate ((119 - p) % 64) 0) ++ eight_bytes x) e f

-- the digest of what came is the message's
pub finished_fed : (m : List ℕ) → finished (fed hash_begun m) ≡ sha1 m
unfolding finished final_hash sha1 padded
finished_fed m =
    let r = fed hash_begun m in
    let came : Came m r = came_on [] m hash_begun came_none in
    let p : padding r.total ≡ padding (length m) = ap padding came.counted ∙ padding_counted (length m) in
    ap (λ (l : List ℕ). digest (fed r l).hash) p
    ∙ ap digest (came_on m (padding (length m)) r came).hashed_so

-- a digest has twenty bytes
pub twenty : (m : List ℕ) → length (sha1 m) ≡ 20
unfolding sha1
twenty m = refl

take_zeros : (n m : ℕ) → n ≤ m → take n (replicate {A = ℕ} m 0) ≡ replicate n 0
take_zeros zero m h = refl
take_zeros (suc n) zero h = absurd (not-suc-le-zero h)
take_zeros (suc n) (suc m) h = ap (λ (l : List ℕ). 0 ∷ l) (take_zeros n m (le_of_suc-le-suc h))

-- the byte 0x80 and the zeros after it
pub marked : (n m : ℕ) {l : List ℕ} → n < 64 → m ≡ suc n → l ≡ 0x80 ∷ replicate 63 0 → take m l ≡ 0x80 ∷ replicate n 0
marked n m {l} h e p = ap₂ take e p ∙ ap (λ (x : List ℕ). 0x80 ∷ x) (take_zeros n 63 (omega arith))

-- the marker and the length, fed one after the other
pub finished_by :
    (r : Running) {s all : Running} {first last : List ℕ} → first ≡ 0x80 ∷ replicate (zeros r.total) 0 → last ≡ eight_bytes (8 * r.total % 2 ^ 64)
    → s ≡ fed r first → all ≡ fed s last → all.hash ≡ final_hash r
unfolding final_hash padding
finished_by r {s} {all} {first} {last} p q u v =
    let e : all ≡ fed r ((0x80 ∷ replicate (zeros r.total) 0) ++ eight_bytes (8 * r.total % 2 ^ 64)) =
    v ∙ ap₂ fed (u ∙ ap (fed r) p) q ∙ fed_append r (0x80 ∷ replicate (zeros r.total) 0) (eight_bytes (8 * r.total % 2 ^ 64)) in
    ap (λ (x : Running). x.hash) e

-- the eight bytes of a number, as the library has them
pub eight_are : (x : ℕ) → to_be_bytes w64 x ≡ eight_bytes x
eight_are x = simp div-div-eq-div-mul
