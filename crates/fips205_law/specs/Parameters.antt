-- A parameter set: its sizes and its functions (FIPS 205, sections 4.1, 5 and 11).
use Rattle.std.specs.Prelude.{ℕ, ◌+◌, ◌-◌, ◌*◌, ◌/◌, ◌^◌, nat_le, List, take, drop}
use Rattle.fips205_law.specs.Loops.{while_within}
use Rattle.slh_core.specs.Parameters.{Scheme}

-- h' is hp
pub record Instance : Type 0 where
  pub n : ℕ
  pub lg_w : ℕ
  pub h : ℕ
  pub d : ℕ
  pub hp : ℕ
  pub a : ℕ
  pub k : ℕ
  -- by the order of their arguments in section 4.1: F, H, T_l and PRF of the public seed first, PRF
  -- with the secret seed before the address
  pub F : List ℕ → List ℕ → List ℕ → List ℕ
  pub H : List ℕ → List ℕ → List ℕ → List ℕ
  pub T : List ℕ → List ℕ → List ℕ → List ℕ
  pub PRF : List ℕ → List ℕ → List ℕ → List ℕ
  -- PRF_msg of SK.prf, opt_rand and M; H_msg of R, PK.seed, PK.root and M
  pub PRF_msg : List ℕ → List ℕ → List ℕ → List ℕ
  pub H_msg : List ℕ → List ℕ → List ℕ → List ℕ → List ℕ

-- the quotient, rounded up
abbrev pub ceil_div : ℕ → ℕ → ℕ
ceil_div x y = (x + (y - 1)) / y

-- Algorithm 1, gen_len2: w, len1 and max_checksum are lines 1 to 3, the start of the loop 4 and 5,
-- a turn 7 and 8, its test 6. The loop takes at most max_checksum turns.
pub record GenLen2 : Type 0 where
  pub len2 : ℕ
  pub capacity : ℕ

abbrev pub gen_len2_turn : ℕ → GenLen2 → GenLen2
gen_len2_turn w s = record { len2 = s.len2 + 1; capacity = s.capacity * w }

unfoldable pub gen_len2 : ℕ → ℕ → ℕ
gen_len2 n lg_w =
    let w = 2 ^ lg_w in
    let len1 = ceil_div (8 * n) lg_w in
    let max_checksum = len1 * (w - 1) in
    (while_within max_checksum (λ (s : GenLen2). nat_le s.capacity max_checksum) (gen_len2_turn w)
    (record { len2 = 1; capacity = w })).len2

-- equations 5.1 to 5.4
abbrev pub w_of : Instance → ℕ
w_of P = 2 ^ P.lg_w

abbrev pub len1_of : Instance → ℕ
len1_of P = ceil_div (8 * P.n) P.lg_w

abbrev pub len2_of : Instance → ℕ
len2_of P = gen_len2 P.n P.lg_w

abbrev pub len_of : Instance → ℕ
len_of P = len1_of P + len2_of P

-- The parameter set of a scheme of the project: lg_w is 4, h is d times h', and its H takes the two
-- halves of its input apart.
abbrev pub instance_of : Scheme → Instance
instance_of Z = record {
  n = Z.n;
  lg_w = 4;
  h = Z.d * Z.hp;
  d = Z.d;
  hp = Z.hp;
  a = Z.a;
  k = Z.k;
  F = Z.suite.f;
  H = λ s adrs m. Z.suite.h s adrs (take Z.n m) (drop Z.n m);
  T = Z.suite.t;
  PRF = λ s sk adrs. Z.suite.prf s adrs sk;
  PRF_msg = Z.suite.prf_msg;
  H_msg = Z.suite.h_msg;
}
