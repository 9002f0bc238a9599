-- Reading numbers in base 128.
use Rattle.std.proofs.Common.{◌≡◌, ℕ, suc, ◌+◌, ◌-◌, ◌*◌, ◌/◌, ◌%◌, ◌^◌, ◌<◌, ◌≤◌, List, [], ◌∷◌, ◌++◌, drop, length, nat_lt, slice_index, take, true, false, inl, inr, arith, refl, ap, sym, ◌∙◌}
use Rattle.std.proofs.lemmas.Bool.{cases_lt, le-ltb, lt-ltb}
use Rattle.std.proofs.lemmas.List.{length-drop, take_all}
use Rattle.std.proofs.Math.Nat.{div-add-mod, div-div-eq-div-mul, div-eq_of_lt, div-le_self, mod-eq_of_lt}
use Rattle.digest_core.specs.Oid.{AllSmall, arcs_of, base_128, base_128_all, encoding, first_arc, numbers}
use Rattle.digest_core.specs.OidRefusals.{is_out_of_range}

module _ (n : ℕ) (small : n < 2 ^ 35) where
  -- what the groups from a unit on are, and the next group
  group_step : (unit : ℕ) → n / (unit * 128) * 128 + n / unit % 128 ≡ n / unit
  group_step unit = rw (← div-div-eq-div-mul n unit 128) (omega (arith, div-add-mod (n / unit) 128))

  -- a group that isn't the lowest goes on with the number
  upper_group : (unit : ℕ) (more : List ℕ) → numbers (n / (unit * 128)) ((128 + n / unit % 128) ∷ more) ≡ numbers (n / unit) more
  upper_group unit more =
      let on : nat_lt (128 + n / unit % 128) 128 ≡ false = le-ltb (128 + n / unit % 128) 128 (omega arith) in
      let part : 128 + n / unit % 128 - 128 ≡ n / unit % 128 = omega arith in
      let low : n / unit < 2 ^ 64 = omega (arith, div-le_self n unit) in
      rw (on, part, group_step unit, mod-eq_of_lt low) refl

  -- the lowest group ends it
  lowest_group : (more : List ℕ) → numbers (n / 128) ((n % 128) ∷ more) ≡ n ∷ numbers 0 more
  lowest_group more =
      let last : nat_lt (n % 128) 128 ≡ true = lt-ltb (n % 128) 128 (omega arith) in
      let whole : n / 128 * 128 + n % 128 ≡ n = omega (arith, div-add-mod n 128) in
      let low : n < 2 ^ 64 = omega arith in
      rw (last, whole, mod-eq_of_lt low) refl

  -- the octets from a group on
  abbrev from_0 : List ℕ → List ℕ
  from_0 more = (n % 128) ∷ more

  abbrev from_7 : List ℕ → List ℕ
  from_7 more = (128 + n / 2 ^ 7 % 128) ∷ from_0 more

  abbrev from_14 : List ℕ → List ℕ
  from_14 more = (128 + n / 2 ^ 14 % 128) ∷ from_7 more

  abbrev from_21 : List ℕ → List ℕ
  from_21 more = (128 + n / 2 ^ 21 % 128) ∷ from_14 more

  abbrev from_28 : List ℕ → List ℕ
  from_28 more = (128 + n / 2 ^ 28 % 128) ∷ from_21 more

  -- what is read from there on
  read_7 : (more : List ℕ) → numbers (n / 2 ^ 14) (from_7 more) ≡ n ∷ numbers 0 more
  read_7 more = upper_group (2 ^ 7) (from_0 more) ∙ lowest_group more

  read_14 : (more : List ℕ) → numbers (n / 2 ^ 21) (from_14 more) ≡ n ∷ numbers 0 more
  read_14 more = upper_group (2 ^ 14) (from_7 more) ∙ read_7 more

  read_21 : (more : List ℕ) → numbers (n / 2 ^ 28) (from_21 more) ≡ n ∷ numbers 0 more
  read_21 more = upper_group (2 ^ 21) (from_14 more) ∙ read_14 more

  read_28 : (more : List ℕ) → numbers (n / 2 ^ 35) (from_28 more) ≡ n ∷ numbers 0 more
  read_28 more = upper_group (2 ^ 28) (from_21 more) ∙ read_21 more

  -- the first group that isn't left out begins a number
  begins : (unit : ℕ) (octets : List ℕ) → n < unit → numbers 0 octets ≡ numbers (n / unit) octets
  begins unit octets below = ap (λ b. numbers b octets) (sym (div-eq_of_lt below))

  -- a number is read from its octets
  pub numbers_base_128 : (more : List ℕ) → numbers 0 (base_128 n ++ more) ≡ n ∷ numbers 0 more
  numbers_base_128 more = elim (cases_lt n (2 ^ 7)) [
    | inl b7 ↦
        let t7 : nat_lt n (2 ^ 7) ≡ true = lt-ltb n (2 ^ 7) b7 in
        rw t7 (begins (2 ^ 7) (from_0 more) b7 ∙ lowest_group more)
    | inr a7 ↦
        let f7 : nat_lt n (2 ^ 7) ≡ false = le-ltb n (2 ^ 7) a7 in
        elim (cases_lt n (2 ^ 14)) [
          | inl b14 ↦
              let t14 : nat_lt n (2 ^ 14) ≡ true = lt-ltb n (2 ^ 14) b14 in
              rw (f7, t14) (begins (2 ^ 14) (from_7 more) b14 ∙ read_7 more)
          | inr a14 ↦
              let f14 : nat_lt n (2 ^ 14) ≡ false = le-ltb n (2 ^ 14) a14 in
              elim (cases_lt n (2 ^ 21)) [
                | inl b21 ↦
                    let t21 : nat_lt n (2 ^ 21) ≡ true = lt-ltb n (2 ^ 21) b21 in
                    rw (f7, f14, t21) (begins (2 ^ 21) (from_14 more) b21 ∙ read_14 more)
                | inr a21 ↦
                    let f21 : nat_lt n (2 ^ 21) ≡ false = le-ltb n (2 ^ 21) a21 in
                    elim (cases_lt n (2 ^ 28)) [
                      | inl b28 ↦
                          let t28 : nat_lt n (2 ^ 28) ≡ true = lt-ltb n (2 ^ 28) b28 in
                          rw (f7, f14, f21, t28) (begins (2 ^ 28) (from_21 more) b28 ∙ read_21 more)
                      | inr a28 ↦
                          let f28 : nat_lt n (2 ^ 28) ≡ false = le-ltb n (2 ^ 28) a28 in
                          rw (f7, f14, f21, f28) (begins (2 ^ 35) (from_28 more) small ∙ read_28 more)
                    ]
              ]
        ]
  ]

-- numbers are read from their octets, one after another
numbers_base_128_all : (ns : List ℕ) → AllSmall ns → numbers 0 (base_128_all ns) ≡ ns
numbers_base_128_all [] small = refl
numbers_base_128_all (n ∷ ns) small =
    let fits : n < 2 ^ 32 = small 0 in
    numbers_base_128 n (omega arith) (base_128_all ns)
    ∙ ap (λ xs. n ∷ xs) (numbers_base_128_all ns (λ k. small (suc k)))

-- the first two arcs are taken apart as they were put together
first_arc_is : (first second : ℕ) → is_out_of_range first second ≡ false → first_arc (40 * first + second) ≡ first
first_arc_is first second in_range = grind arith

-- arcs are read from their octets
pub arcs_of_encoding : (first second : ℕ) (rest : List ℕ) → is_out_of_range first second ≡ false → second < 2 ^ 32 → AllSmall rest → arcs_of (encoding (first ∷ second ∷ rest)) ≡ first ∷ second ∷ rest
arcs_of_encoding first second rest in_range second_small small =
    let low : first ≤ 2 = grind arith in
    let one : first_arc (40 * first + second) ≡ first = first_arc_is first second in_range in
    let two : 40 * first + second - 40 * first ≡ second = omega arith in
    rw (numbers_base_128 (40 * first + second) (omega arith) (base_128_all rest), one, two, numbers_base_128_all rest small) refl

-- a list of two items at least
two_and_drop : (xs : List ℕ) → 2 ≤ length xs → slice_index xs 0 ∷ slice_index xs 1 ∷ drop 2 xs ≡ xs
two_and_drop [] h = absurd (omega (arith, h))
two_and_drop (x ∷ []) h = absurd (omega (arith, h))
two_and_drop (x ∷ y ∷ xs) h = refl

pub two_and_rest : (xs : List ℕ) → 2 ≤ length xs → slice_index xs 0 ∷ slice_index xs 1 ∷ take (length xs - 2) (drop 2 xs) ≡ xs
two_and_rest xs h =
    let all : take (length xs - 2) (drop 2 xs) ≡ drop 2 xs = take_all _ _ (omega (arith, length-drop 2 xs)) in
    rw all (two_and_drop xs h)
