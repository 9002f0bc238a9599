-- SLH-DSA, internal functions (FIPS 205, section 9), and the frame of a message of section 10.2.
use Rattle.std.specs.Prelude.{◌≡◌, ℕ, ◌+◌, ◌-◌, ◌*◌, ◌/◌, ◌%◌, ◌^◌, List, ◌++◌, length, slice_range}
use Rattle.std.specs.Prelude.{Option, unwrap_or}
use Rattle.fips205_law.specs.Addresses.{FORS_TREE, setLayerAddress, setTreeAddress, setTypeAndClear}
use Rattle.fips205_law.specs.Addresses.{setKeyPairAddress}
use Rattle.fips205_law.specs.Bytes.{toInt, toByte}
use Rattle.fips205_law.specs.Fors.{fors_sign, fors_pkFromSig}
use Rattle.fips205_law.specs.Hypertree.{ht_sign, ht_verify}
use Rattle.fips205_law.specs.Parameters.{Instance, ceil_div, len_of}
use Rattle.fips205_law.specs.Xmss.{xmss_node}

-- the parts of a signing key and of a verifying key in their order (figures 15 and 16)
pub record SecretKey : Type 0 where
  pub SKseed : List ℕ
  pub SKprf : List ℕ
  pub PKseed : List ℕ
  pub PKroot : List ℕ

pub record PublicKey : Type 0 where
  pub PKseed : List ℕ
  pub PKroot : List ℕ

pub record KeyPair : Type 0 where
  pub SK : SecretKey
  pub PK : PublicKey

-- Algorithm 18, slh_keygen_internal: ADRS is lines 1 and 2, PKroot line 3, the keys line 4
unfoldable pub slh_keygen_internal : Instance → List ℕ → List ℕ → List ℕ → KeyPair
slh_keygen_internal P SKseed SKprf PKseed =
    let ADRS = setLayerAddress (toByte 0 32) (P.d - 1) in
    let PKroot = xmss_node P SKseed 0 P.hp PKseed ADRS in
    record {
      SK = record { SKseed = SKseed; SKprf = SKprf; PKseed = PKseed; PKroot = PKroot };
      PK = record { PKseed = PKseed; PKroot = PKroot };
    }

-- Algorithm 19, lines 6 to 10, and algorithm 20, lines 9 to 13: md is the first of these lines, the
-- others follow in their order
pub record Split : Type 0 where
  pub md : List ℕ
  pub idx_tree : ℕ
  pub idx_leaf : ℕ

abbrev pub split : Instance → List ℕ → Split
split P digest =
    let ka = ceil_div (P.k * P.a) 8 in
    let tree = ceil_div (P.h - P.h / P.d) 8 in
    let leaf = ceil_div P.h (8 * P.d) in
    let tmp_idx_tree = slice_range digest ka (ka + tree) in
    let tmp_idx_leaf = slice_range digest (ka + tree) (ka + tree + leaf) in
    record {
      md = slice_range digest 0 ka;
      idx_tree = toInt tmp_idx_tree tree % 2 ^ (P.h - P.h / P.d);
      idx_leaf = toInt tmp_idx_leaf leaf % 2 ^ (P.h / P.d);
    }

-- Algorithm 19, lines 11 to 13, and algorithm 20, lines 14 to 16, on the address of line 1 (of line
-- 4 in 20)
abbrev pub fors_address : Split → List ℕ
fors_address parts =
    setKeyPairAddress (setTypeAndClear
    (setTreeAddress (toByte 0 32) parts.idx_tree) FORS_TREE) parts.idx_leaf

-- Algorithm 19, slh_sign_internal: opt_rand is line 2 (the public seed for the deterministic
-- variant), R line 3, digest line 5, SIG_FORS line 14, PK_FORS line 16, SIG_HT line 17, and the
-- whole lines 4, 15 and 18
abbrev pub slh_sign_rest : Instance → SecretKey → List ℕ → Split → List ℕ
slh_sign_rest P SK R parts =
    let ADRS = fors_address parts in
    let SIG_FORS = fors_sign P parts.md SK.SKseed SK.PKseed ADRS in
    let PK_FORS = fors_pkFromSig P SIG_FORS parts.md SK.PKseed ADRS in
    let SIG_HT = ht_sign P PK_FORS SK.SKseed SK.PKseed parts.idx_tree parts.idx_leaf in
    R ++ SIG_FORS ++ SIG_HT

unfoldable pub slh_sign_internal : Instance → List ℕ → SecretKey → Option (List ℕ) → List ℕ
slh_sign_internal P M SK addrnd =
    let opt_rand = unwrap_or addrnd SK.PKseed in
    let R = P.PRF_msg SK.SKprf opt_rand M in
    let digest = P.H_msg R SK.PKseed SK.PKroot M in
    slh_sign_rest P SK R (split P digest)

-- Algorithm 20, slh_verify_internal: R, SIG_FORS and SIG_HT are lines 5 to 7 (the signature's parts
-- one after the other), digest line 8, the test of the length lines 1 to 3, PK_FORS line 17, the
-- answer line 18
abbrev pub signature_len : Instance → ℕ
signature_len P = (1 + P.k * (1 + P.a) + P.h + P.d * len_of P) * P.n

abbrev pub slh_verify_rest : Instance → PublicKey → List ℕ → List ℕ → Split → Type 0
slh_verify_rest P PK SIG_FORS SIG_HT parts =
    let PK_FORS = fors_pkFromSig P SIG_FORS parts.md PK.PKseed (fors_address parts) in
    ht_verify P PK_FORS SIG_HT PK.PKseed parts.idx_tree parts.idx_leaf PK.PKroot

-- that it returns true
abbrev pub slh_verify_internal : Instance → List ℕ → List ℕ → PublicKey → Type 0
slh_verify_internal P M SIG PK =
    let R = slice_range SIG 0 P.n in
    let forest_end = (1 + P.k * (1 + P.a)) * P.n in
    let SIG_FORS = slice_range SIG P.n forest_end in
    let SIG_HT = slice_range SIG forest_end (signature_len P) in
    let digest = P.H_msg R PK.PKseed PK.PKroot M in
    (length SIG ≡ signature_len P) × slh_verify_rest P PK SIG_FORS SIG_HT (split P digest)

-- Algorithm 22, line 8, and algorithm 24, line 4
unfoldable pub pure_message : List ℕ → List ℕ → List ℕ
pure_message ctx M = toByte 0 1 ++ toByte (length ctx) 1 ++ ctx ++ M
