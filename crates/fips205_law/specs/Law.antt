-- The laws that the definitions of the project are those of the standard.
use Rattle.std.specs.Prelude.{◌≡◌, ℕ, ◌+◌, ◌*◌, ◌^◌, ◌<◌, ◌≤◌, List, [], ◌∷◌, ◌++◌, length, take}
use Rattle.std.specs.Prelude.{slice_index, nat_lt, nat_le, Option, None, Some, IfSome}
use Rattle.slh_core.specs.Parameters.{Scheme, chain_count}
use Rattle.slh_core.specs.Parameters.{IsValidWots, IsValidXmss, IsValidHypertree, IsValidFors}
use Rattle.slh_core.specs.Suite.{HasLength, HasBytes, HasDigestLength, seeded}
use Rattle.slh_core.specs.Wots.{chain as project_chain, wots_pk, wots_sig, wots_pk_from_sig}
use Rattle.slh_core.specs.Digits.{wots_digits}
use Rattle.slh_trees.specs.Checking.{checked_root}
use Rattle.slh_merkle.specs.Checking.{checked_node, checked_message, fors_pk_from_sig}
use Rattle.slh_trees.specs.Checking.{signature_size}
use Rattle.slh_merkle.specs.Checking.{forest_size}
use Rattle.slh_merkle.specs.Fors.{fors_secret, fors_node as project_fors_node, fors_sig}
use Rattle.slh_frames.specs.Frames.{frame}
use Rattle.slh_merkle.specs.Hypertree.{layer_size, ht_sig}
use Rattle.slh_trees.specs.Keys.{signing_key_bytes, top_root}
use Rattle.slh_trees.specs.Signing.{signature_of}
use Rattle.slh_core.specs.Bytes.{number_of, big_endian, part}
use Rattle.slh_merkle.specs.Xmss.{xmss_node as project_xmss_node, xmss_sig}
use Rattle.fips205_law.specs.Addresses.{WOTS_HASH, FORS_TREE}
use Rattle.fips205_law.specs.External.{slh_keygen, slh_sign, slh_verify, PreHash, sha256_oid}
use Rattle.fips205_law.specs.External.{sha512_oid}
use Rattle.fips205_law.specs.External.{hash_message, hash_slh_sign, hash_slh_verify}
use Rattle.fips205_law.specs.Fors.{fors_skGen, fors_node, fors_sign, fors_pkFromSig}
use Rattle.fips205_law.specs.Hypertree.{ht_sign, ht_verify_node}
use Rattle.fips205_law.specs.Parameters.{GenLen2, gen_len2_turn, gen_len2, instance_of, len_of}
use Rattle.fips205_law.specs.Slh.{SecretKey, PublicKey, slh_keygen_internal, slh_sign_internal}
use Rattle.fips205_law.specs.Slh.{slh_verify_internal, pure_message}
use Rattle.fips205_law.specs.Wots.{chain, wots_pkGen, wots_msg, wots_sign, wots_pkFromSig}
use Rattle.fips205_law.specs.Xmss.{xmss_node, xmss_sign, xmss_pkFromSig}
use Rattle.slh_core.specs.Address.{address_bytes}
use Rattle.slh_core.specs.Digits.{digits}
use Rattle.fips205_law.specs.Addresses.{setLayerAddress, setTreeAddress, setTypeAndClear}
use Rattle.fips205_law.specs.Addresses.{setKeyPairAddress, setChainAddress, setHashAddress}
use Rattle.fips205_law.specs.Addresses.{getKeyPairAddress, getTreeIndex}
use Rattle.fips205_law.specs.Bytes.{toInt, toByte, Base2b, base_2b_read, base_2b}
use Rattle.fips205_law.specs.Loops.{while_within}

-- all elements are bytes
abbrev pub AreBytes : List ℕ → Type 0
AreBytes X = (i : ℕ) → slice_index X i < 256

-- Algorithm 2
abbrev pub ToIntAgrees : Type 0
ToIntAgrees = (X : List ℕ) (n : ℕ) → n ≤ length X → toInt X n ≡ number_of (take n X)

-- Algorithm 3
abbrev pub ToByteAgrees : Type 0
ToByteAgrees = (x n : ℕ) → toByte x n ≡ big_endian x n

-- Algorithm 4
abbrev pub Base2bAgrees : Type 0
Base2bAgrees = (X : List ℕ) (b out_len : ℕ) → AreBytes X → b * out_len ≤ 8 * length X
    → base_2b X b out_len ≡ digits X b out_len

-- The loops of lines 5 to 9 of algorithm 4 and 6 to 9 of algorithm 1 (at lg_w = 4) have ended once
-- the turns that they are given are used up
pub record LoopsEnd : Type 0 where
  pub bits : (X : List ℕ) (b : ℕ) (s : Base2b)
      → b ≤ (while_within b (λ (v : Base2b). nat_lt v.bits b) (base_2b_read X) s).bits
  pub capacity : (m : ℕ) → m <
      (while_within m (λ (s : GenLen2). nat_le s.capacity m) (gen_len2_turn 16)
      (record { len2 = 1; capacity = 16 })).capacity

-- Table 1: what the functions do to an address that is made by its parts
pub record AddressesAgree : Type 0 where
  pub layer : (j t k w1 w2 w3 v : ℕ)
      → setLayerAddress (address_bytes j t k w1 w2 w3) v ≡ address_bytes v t k w1 w2 w3
  pub tree : (j t k w1 w2 w3 v : ℕ) → v < 2 ^ 64
      → setTreeAddress (address_bytes j t k w1 w2 w3) v ≡ address_bytes j v k w1 w2 w3
  pub type_clear : (j t k w1 w2 w3 v : ℕ)
      → setTypeAndClear (address_bytes j t k w1 w2 w3) v ≡ address_bytes j t v 0 0 0
  pub key_pair : (j t k w1 w2 w3 v : ℕ)
      → setKeyPairAddress (address_bytes j t k w1 w2 w3) v ≡ address_bytes j t k v w2 w3
  pub chain_height : (j t k w1 w2 w3 v : ℕ)
      → setChainAddress (address_bytes j t k w1 w2 w3) v ≡ address_bytes j t k w1 v w3
  pub hash_index : (j t k w1 w2 w3 v : ℕ)
      → setHashAddress (address_bytes j t k w1 w2 w3) v ≡ address_bytes j t k w1 w2 v
  pub get_key_pair : (j t k w1 w2 w3 : ℕ) → w1 < 2 ^ 32
      → getKeyPairAddress (address_bytes j t k w1 w2 w3) ≡ w1
  pub get_index : (j t k w1 w2 w3 : ℕ) → w3 < 2 ^ 32
      → getTreeIndex (address_bytes j t k w1 w2 w3) ≡ w3
  pub none : toByte 0 32 ≡ address_bytes 0 0 0 0 0 0

-- From here on Z is a scheme of the project, s a public seed, sk a secret one, and an address is at
-- layer j and tree t, with any type and words k, w1, w2, w3 but those that are named.

-- the standard's len2 is 3
pub record HasThreeDigits (Z : Scheme) : Type 0 where
  pub low : 9 ≤ Z.n
  pub high : Z.n ≤ 136

-- a message that a key pair signs
pub record IsSigned (Z : Scheme) (M : List ℕ) : Type 0 where
  pub bytes : AreBytes M
  pub size : length M ≡ Z.n

-- Algorithm 1, and equations (5.1) to (5.4)
abbrev pub LenAgrees : Type 0
LenAgrees = (Z : Scheme) → HasThreeDigits Z → len_of (instance_of Z) ≡ chain_count Z.n

-- For n of 8 the standard's len2 is 2, and not 3: the project's count of chains is another there,
-- though it calls such sizes valid. The standard has no set with n below 16.
abbrev pub LenDiffersAtEight : Type 0
LenDiffersAtEight = (gen_len2 8 4 ≡ 2) × (chain_count 8 ≡ 2 * 8 + 3)

-- Algorithm 5
abbrev pub ChainAgrees : Type 0
ChainAgrees =
    (Z : Scheme) (s : List ℕ) (j t l c w3 : ℕ) (X : List ℕ) (i steps : ℕ)
    → chain (instance_of Z) X i steps s (address_bytes j t WOTS_HASH l c w3)
    ≡ project_chain (seeded Z.suite Z.n s) j t l c X i steps

-- Algorithm 6
abbrev pub WotsPkGenAgrees : Type 0
WotsPkGenAgrees =
    (Z : Scheme) (sk s : List ℕ) (j t l w2 w3 : ℕ)
    → HasThreeDigits Z
    → wots_pkGen (instance_of Z) sk s (address_bytes j t WOTS_HASH l w2 w3)
    ≡ wots_pk (seeded Z.suite Z.n s) sk j t l

-- Algorithms 7 and 8, lines 1 to 7
abbrev pub WotsMsgAgrees : Type 0
WotsMsgAgrees =
    (Z : Scheme) (M : List ℕ)
    → HasThreeDigits Z → IsSigned Z M → wots_msg (instance_of Z) M ≡ wots_digits Z.n M

-- Algorithm 7
abbrev pub WotsSignAgrees : Type 0
WotsSignAgrees =
    (Z : Scheme) (M sk s : List ℕ) (j t l w2 w3 : ℕ)
    → HasThreeDigits Z → IsSigned Z M
    → wots_sign (instance_of Z) M sk s (address_bytes j t WOTS_HASH l w2 w3)
    ≡ wots_sig (seeded Z.suite Z.n s) sk j t l M

-- Algorithm 8
abbrev pub WotsPkFromSigAgrees : Type 0
WotsPkFromSigAgrees =
    (Z : Scheme) (sig M s : List ℕ) (j t l w2 w3 : ℕ)
    → HasThreeDigits Z → IsSigned Z M
    → wots_pkFromSig (instance_of Z) sig M s (address_bytes j t WOTS_HASH l w2 w3)
    ≡ wots_pk_from_sig (seeded Z.suite Z.n s) j t l sig M

-- Algorithm 9
abbrev pub XmssNodeAgrees : Type 0
XmssNodeAgrees =
    (Z : Scheme) (sk s : List ℕ) (j t k w1 w2 w3 i z : ℕ)
    → HasLength Z.suite Z.n → HasThreeDigits Z
    → xmss_node (instance_of Z) sk i z s (address_bytes j t k w1 w2 w3)
    ≡ project_xmss_node (seeded Z.suite Z.n s) sk j t z i

-- Algorithm 10
abbrev pub XmssSignAgrees : Type 0
XmssSignAgrees =
    (Z : Scheme) (M sk s : List ℕ) (j t k w1 w2 w3 idx : ℕ)
    → HasLength Z.suite Z.n → HasThreeDigits Z → IsSigned Z M
    → xmss_sign (instance_of Z) M sk idx s (address_bytes j t k w1 w2 w3)
    ≡ xmss_sig (seeded Z.suite Z.n s) sk j t idx M Z.hp

-- Algorithm 11
abbrev pub XmssPkFromSigAgrees : Type 0
XmssPkFromSigAgrees =
    (Z : Scheme) (SIG M s : List ℕ) (j t k w1 w2 w3 idx : ℕ)
    → HasLength Z.suite Z.n → HasThreeDigits Z → IsSigned Z M
    → length SIG ≡ layer_size Z.n Z.hp → idx < 2 ^ 32
    → xmss_pkFromSig (instance_of Z) idx SIG M s (address_bytes j t k w1 w2 w3)
    ≡ checked_node (seeded Z.suite Z.n s) j t idx SIG M Z.hp

-- Algorithm 14
abbrev pub ForsSkGenAgrees : Type 0
ForsSkGenAgrees =
    (Z : Scheme) (sk s : List ℕ) (t k l w2 w3 idx : ℕ)
    → fors_skGen (instance_of Z) sk s (address_bytes 0 t k l w2 w3) idx
    ≡ fors_secret (seeded Z.suite Z.n s) sk t l idx

-- Algorithm 15
abbrev pub ForsNodeAgrees : Type 0
ForsNodeAgrees =
    (Z : Scheme) (sk s : List ℕ) (t l w2 w3 i z : ℕ)
    → HasLength Z.suite Z.n
    → fors_node (instance_of Z) sk i z s (address_bytes 0 t FORS_TREE l w2 w3)
    ≡ project_fors_node (seeded Z.suite Z.n s) sk t l z i

-- Algorithm 16
abbrev pub ForsSignAgrees : Type 0
ForsSignAgrees =
    (Z : Scheme) (md sk s : List ℕ) (t l w2 w3 : ℕ)
    → HasLength Z.suite Z.n → AreBytes md → Z.a * Z.k ≤ 8 * length md
    → fors_sign (instance_of Z) md sk s (address_bytes 0 t FORS_TREE l w2 w3)
    ≡ fors_sig (seeded Z.suite Z.n s) sk t l Z.k Z.a md

-- Algorithm 17
abbrev pub ForsPkFromSigAgrees : Type 0
ForsPkFromSigAgrees =
    (Z : Scheme) (SIG md s : List ℕ) (t l w2 w3 : ℕ)
    → HasLength Z.suite Z.n → AreBytes md → Z.a * Z.k ≤ 8 * length md
    → length SIG ≡ forest_size Z.n Z.k Z.a → Z.k * 2 ^ Z.a ≤ 2 ^ 32
    → fors_pkFromSig (instance_of Z) SIG md s (address_bytes 0 t FORS_TREE l w2 w3)
    ≡ fors_pk_from_sig (seeded Z.suite Z.n s) t l Z.k Z.a SIG md

-- Valid sizes of the project, of which n is at least 9, over a suite whose values are bytes. The
-- standard's sets have n at 16, 24 and 32.
pub record IsRow (Z : Scheme) : Type 0 where
  pub m : ℕ
  pub digits : ℕ
  pub chains : ℕ
  pub h : ℕ
  pub md : ℕ
  pub wots : IsValidWots Z.n digits chains
  pub xmss : IsValidXmss Z.hp
  pub hypertree : IsValidHypertree Z.hp Z.d h
  pub fors : IsValidFors Z.hp h Z.k Z.a md m
  pub three_digits : 9 ≤ Z.n
  pub lengths : HasLength Z.suite Z.n
  pub bytes : HasBytes Z.suite
  pub digest_len : HasDigestLength Z.suite m
  pub digest_bytes : (r s root message : List ℕ) → AreBytes (Z.suite.h_msg r s root message)

-- Algorithm 12
abbrev pub HtSignAgrees : Type 0
HtSignAgrees =
    (Z : Scheme) (M sk s : List ℕ) (idx_tree idx_leaf : ℕ)
    → IsRow Z → IsSigned Z M → idx_tree < 2 ^ 64 → idx_leaf < 2 ^ Z.hp
    → ht_sign (instance_of Z) M sk s idx_tree idx_leaf
    ≡ ht_sig (seeded Z.suite Z.n s) Z.hp sk idx_tree idx_leaf M Z.d

-- Algorithm 13: the node that it compares with the root
abbrev pub HtVerifyAgrees : Type 0
HtVerifyAgrees =
    (Z : Scheme) (M SIG s : List ℕ) (idx_tree idx_leaf : ℕ)
    → IsRow Z → IsSigned Z M → idx_tree < 2 ^ 64 → idx_leaf < 2 ^ Z.hp
    → length SIG ≡ Z.d * layer_size Z.n Z.hp
    → ht_verify_node (instance_of Z) M SIG s idx_tree idx_leaf
    ≡ checked_message (seeded Z.suite Z.n s) Z.hp idx_tree idx_leaf SIG M Z.d

-- a key's bytes, and its parts
abbrev pub secret_key_bytes : SecretKey → List ℕ
secret_key_bytes SK = SK.SKseed ++ SK.SKprf ++ SK.PKseed ++ SK.PKroot

abbrev pub secret_key_of : ℕ → List ℕ → SecretKey
secret_key_of n key = record {
  SKseed = part n key 0;
  SKprf = part n key 1;
  PKseed = part n key 2;
  PKroot = part n key 3;
}

abbrev pub public_key_of : List ℕ → List ℕ → PublicKey
public_key_of s root = record { PKseed = s; PKroot = root }

-- Algorithm 18
pub record KeygenAgrees : Type 0 where
  pub secret : (Z : Scheme) (sk prf s : List ℕ) → IsRow Z
      → secret_key_bytes (slh_keygen_internal (instance_of Z) sk prf s).SK
      ≡ signing_key_bytes Z sk prf s
  pub public : (Z : Scheme) (sk prf s : List ℕ) → IsRow Z
      → (slh_keygen_internal (instance_of Z) sk prf s).PK ≡ public_key_of s (top_root Z s sk)

-- Algorithm 19
abbrev pub SignAgrees : Type 0
SignAgrees =
    (Z : Scheme) (key M : List ℕ) (addrnd : Option (List ℕ))
    → IsRow Z
    → slh_sign_internal (instance_of Z) M (secret_key_of Z.n key) addrnd
    ≡ signature_of Z key addrnd M

-- Algorithm 20 returns true exactly where the signature has its length and leads to the root
pub record VerifyAgrees : Type 0 where
  pub only : (Z : Scheme) (s root M SIG : List ℕ) → IsRow Z
      → slh_verify_internal (instance_of Z) M SIG (public_key_of s root)
      → (length SIG ≡ signature_size Z) × (checked_root Z s root M SIG ≡ root)
  pub always : (Z : Scheme) (s root M SIG : List ℕ) → IsRow Z
      → (length SIG ≡ signature_size Z) × (checked_root Z s root M SIG ≡ root)
      → slh_verify_internal (instance_of Z) M SIG (public_key_of s root)

-- Algorithm 21, of three strings that were drawn
abbrev pub SlhKeygenAgrees : Type 0
SlhKeygenAgrees =
    (Z : Scheme) (sk prf s : List ℕ)
    → IsRow Z
    → IfSome (slh_keygen (instance_of Z) (Some sk) (Some prf) (Some s))
    (λ pair. secret_key_bytes pair.SK ≡ signing_key_bytes Z sk prf s)

-- Algorithm 22, line 8, and algorithm 24, line 4
abbrev pub FrameAgrees : Type 0
FrameAgrees = (ctx M : List ℕ) → length ctx ≤ 255 → pure_message ctx M ≡ frame ctx M

-- Algorithm 22
pub record SlhSignAgrees : Type 0 where
  pub signed : (Z : Scheme) (key ctx M : List ℕ) (addrnd : Option (List ℕ)) → IsRow Z
      → length ctx ≤ 255
      → slh_sign (instance_of Z) M ctx (secret_key_of Z.n key) addrnd
      ≡ Some (signature_of Z key addrnd (frame ctx M))
  pub refused : (Z : Scheme) (key ctx M : List ℕ) (addrnd : Option (List ℕ)) → 255 < length ctx
      → slh_sign (instance_of Z) M ctx (secret_key_of Z.n key) addrnd ≡ None

-- Algorithm 24
pub record SlhVerifyAgrees : Type 0 where
  pub only : (Z : Scheme) (s root ctx M SIG : List ℕ) → IsRow Z
      → slh_verify (instance_of Z) M SIG ctx (public_key_of s root)
      → (length ctx ≤ 255) × ((length SIG ≡ signature_size Z)
      × (checked_root Z s root (frame ctx M) SIG ≡ root))
  pub always : (Z : Scheme) (s root ctx M SIG : List ℕ) → IsRow Z
      → (length ctx ≤ 255) × ((length SIG ≡ signature_size Z)
      × (checked_root Z s root (frame ctx M) SIG ≡ root))
      → slh_verify (instance_of Z) M SIG ctx (public_key_of s root)

-- What algorithms 23 and 25 sign and check: the right sides are those of `mode_frame` of `slh_dsa`
pub record HashMessageAgrees : Type 0 where
  pub message : (PH : PreHash) (ctx M : List ℕ) → length ctx ≤ 255
      → hash_message PH ctx M ≡ (1 ∷ length ctx ∷ []) ++ ctx ++ (PH.OID ++ PH.hash M)
  pub sha256 : sha256_oid
      ≡ 0x06 ∷ 0x09 ∷ 0x60 ∷ 0x86 ∷ 0x48 ∷ 0x01 ∷ 0x65 ∷ 0x03 ∷ 0x04 ∷ 0x02 ∷ 0x01 ∷ []
  pub sha512 : sha512_oid
      ≡ 0x06 ∷ 0x09 ∷ 0x60 ∷ 0x86 ∷ 0x48 ∷ 0x01 ∷ 0x65 ∷ 0x03 ∷ 0x04 ∷ 0x02 ∷ 0x03 ∷ []

-- Algorithm 23
pub record HashSlhSignAgrees : Type 0 where
  pub signed : (Z : Scheme) (key ctx M : List ℕ) (PH : PreHash) (addrnd : Option (List ℕ))
      → IsRow Z → length ctx ≤ 255
      → hash_slh_sign (instance_of Z) M ctx PH (secret_key_of Z.n key) addrnd
      ≡ Some (signature_of Z key addrnd ((1 ∷ length ctx ∷ []) ++ ctx ++ (PH.OID ++ PH.hash M)))
  pub refused : (Z : Scheme) (key ctx M : List ℕ) (PH : PreHash) (addrnd : Option (List ℕ))
      → 255 < length ctx
      → hash_slh_sign (instance_of Z) M ctx PH (secret_key_of Z.n key) addrnd ≡ None

-- Algorithm 25
pub record HashSlhVerifyAgrees : Type 0 where
  pub only : (Z : Scheme) (s root ctx M SIG : List ℕ) (PH : PreHash) → IsRow Z
      → hash_slh_verify (instance_of Z) M SIG ctx PH (public_key_of s root)
      → (length ctx ≤ 255) × ((length SIG ≡ signature_size Z)
      × (checked_root Z s root ((1 ∷ length ctx ∷ []) ++ ctx ++ (PH.OID ++ PH.hash M)) SIG
      ≡ root))
  pub always : (Z : Scheme) (s root ctx M SIG : List ℕ) (PH : PreHash) → IsRow Z
      → (length ctx ≤ 255) × ((length SIG ≡ signature_size Z)
      × (checked_root Z s root ((1 ∷ length ctx ∷ []) ++ ctx ++ (PH.OID ++ PH.hash M)) SIG
      ≡ root))
      → hash_slh_verify (instance_of Z) M SIG ctx PH (public_key_of s root)
