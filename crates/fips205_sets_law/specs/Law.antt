-- The laws of `fips205_law` at the six parameter sets over SHA-2, with nothing left to assume.
use Rattle.std.specs.Prelude.{◌≡◌, ℕ, ◌^◌, ◌≤◌, List, ◌++◌, length}
use Rattle.std.specs.Prelude.{Option, None, Some, IfSome}
use Rattle.hmac_sha256.specs.Hmac.{hmac_sha256}
use Rattle.sha256_lanes.specs.Sha256.{sha256}
use Rattle.sha2.specs.Sha512.{sha512}
use Rattle.slh_core.specs.Parameters.{Scheme}
use Rattle.slh_dsa.specs.Calls.{hash_verify_error, sign_input_refusal}
use Rattle.slh_frames.specs.Frames.{mode_frame}
use Rattle.slh_dsa.specs.declared.error.Error.TheVariants.{ContextTooLong}
use Rattle.slh_frames.specs.declared.frame.Mode.{Mode}
use Rattle.slh_hash.specs.HmacSha512.{hmac_sha512}
use Rattle.slh_hash.specs.Sets.{sha2_128s, sha2_128f, sha2_192s, sha2_192f, sha2_256s, sha2_256f}
use Rattle.slh_trees.specs.Checking.{checked_root, signature_size}
use Rattle.slh_trees.specs.Keys.{signing_key_bytes, top_root}
use Rattle.slh_trees.specs.Signing.{signature_of}
use Rattle.fips205_law.specs.External.{slh_keygen}
use Rattle.fips205_law.specs.Law.{secret_key_bytes, secret_key_of, public_key_of}
use Rattle.fips205_law.specs.Parameters.{Instance, instance_of}
use Rattle.fips205_law.specs.Slh.{slh_keygen_internal, slh_sign_internal, slh_verify_internal}
use Rattle.fips205_sets_law.specs.Modes.{accepted_in, signed_in, verifying_parts}
use Rattle.fips205_sets_law.specs.Functions.{Trunc, mgf1, with_sha256, with_sha512}

-- section 11.2.1
pub record AreCategory1 (P : Instance) (m : ℕ) : Type 0 where
  pub F : (s ADRS M : List ℕ) → P.F s ADRS M ≡ with_sha256 P.n s ADRS M
  pub H : (s ADRS M : List ℕ) → P.H s ADRS M ≡ with_sha256 P.n s ADRS M
  pub T : (s ADRS M : List ℕ) → P.T s ADRS M ≡ with_sha256 P.n s ADRS M
  pub PRF : (s sk ADRS : List ℕ) → P.PRF s sk ADRS ≡ with_sha256 P.n s ADRS sk
  pub PRF_msg : (prf rand M : List ℕ)
      → P.PRF_msg prf rand M ≡ Trunc P.n (hmac_sha256 prf (rand ++ M))
  pub H_msg : (R s root M : List ℕ)
      → P.H_msg R s root M ≡ mgf1 sha256 32 (R ++ s ++ sha256 (R ++ s ++ root ++ M)) m

-- section 11.2.2
pub record AreCategory35 (P : Instance) (m : ℕ) : Type 0 where
  pub F : (s ADRS M : List ℕ) → P.F s ADRS M ≡ with_sha256 P.n s ADRS M
  pub H : (s ADRS M : List ℕ) → P.H s ADRS M ≡ with_sha512 P.n s ADRS M
  pub T : (s ADRS M : List ℕ) → P.T s ADRS M ≡ with_sha512 P.n s ADRS M
  pub PRF : (s sk ADRS : List ℕ) → P.PRF s sk ADRS ≡ with_sha256 P.n s ADRS sk
  pub PRF_msg : (prf rand M : List ℕ)
      → P.PRF_msg prf rand M ≡ Trunc P.n (hmac_sha512 prf (rand ++ M))
  pub H_msg : (R s root M : List ℕ)
      → P.H_msg R s root M ≡ mgf1 sha512 64 (R ++ s ++ sha512 (R ++ s ++ root ++ M)) m

-- table 2: the instance has the standard's sizes n, h, d, h', a and k, and lg_w is 4; m is in its
-- H_msg
pub record HasSizes (P : Instance) (n h d hp a k : ℕ) : Type 0 where
  pub n_is : P.n ≡ n
  pub lg_w_is : P.lg_w ≡ 4
  pub h_is : P.h ≡ h
  pub d_is : P.d ≡ d
  pub hp_is : P.hp ≡ hp
  pub a_is : P.a ≡ a
  pub k_is : P.k ≡ k

pub record TablesAgree : Type 0 where
  pub s128 : HasSizes (instance_of sha2_128s.scheme) 16 63 7 9 12 14
  pub s128_functions : AreCategory1 (instance_of sha2_128s.scheme) 30
  pub f128 : HasSizes (instance_of sha2_128f.scheme) 16 66 22 3 6 33
  pub f128_functions : AreCategory1 (instance_of sha2_128f.scheme) 34
  pub s192 : HasSizes (instance_of sha2_192s.scheme) 24 63 7 9 14 17
  pub s192_functions : AreCategory35 (instance_of sha2_192s.scheme) 39
  pub f192 : HasSizes (instance_of sha2_192f.scheme) 24 66 22 3 8 33
  pub f192_functions : AreCategory35 (instance_of sha2_192f.scheme) 42
  pub s256 : HasSizes (instance_of sha2_256s.scheme) 32 64 8 8 14 22
  pub s256_functions : AreCategory35 (instance_of sha2_256s.scheme) 47
  pub f256 : HasSizes (instance_of sha2_256f.scheme) 32 68 17 4 9 35
  pub f256_functions : AreCategory35 (instance_of sha2_256f.scheme) 49

-- Algorithms 18 to 25 at one set. A key is its bytes, which have the parts of the standard's keys.
pub record SetAgrees (Z : Scheme) : Type 0 where
  -- algorithm 18
  pub secret : (sk prf s : List ℕ)
      → secret_key_bytes (slh_keygen_internal (instance_of Z) sk prf s).SK
      ≡ signing_key_bytes Z sk prf s
  pub public : (sk prf s : List ℕ)
      → (slh_keygen_internal (instance_of Z) sk prf s).PK ≡ public_key_of s (top_root Z s sk)
  -- algorithm 19
  pub sign : (key M : List ℕ) (addrnd : Option (List ℕ))
      → slh_sign_internal (instance_of Z) M (secret_key_of Z.n key) addrnd
      ≡ signature_of Z key addrnd M
  -- algorithm 20
  pub only : (s root M SIG : List ℕ)
      → slh_verify_internal (instance_of Z) M SIG (public_key_of s root)
      → (length SIG ≡ signature_size Z) × (checked_root Z s root M SIG ≡ root)
  pub always : (s root M SIG : List ℕ)
      → (length SIG ≡ signature_size Z) × (checked_root Z s root M SIG ≡ root)
      → slh_verify_internal (instance_of Z) M SIG (public_key_of s root)
  -- algorithm 21: of three strings that were drawn
  pub drawn : (sk prf s : List ℕ)
      → IfSome (slh_keygen (instance_of Z) (Some sk) (Some prf) (Some s))
      (λ pair. secret_key_bytes pair.SK ≡ signing_key_bytes Z sk prf s)
  -- algorithms 22 and 23: the signature of the mode's frame, and none exactly where the calls
  -- refuse the context
  pub signed : (mode : Mode) (key ctx M : List ℕ) (addrnd : Option (List ℕ)) → length ctx ≤ 255
      → signed_in mode (instance_of Z) M ctx (secret_key_of Z.n key) addrnd
      ≡ Some (signature_of Z key addrnd (mode_frame mode ctx M))
  pub refused : (mode : Mode) (key ctx M : List ℕ) (addrnd : Option (List ℕ))
      → sign_input_refusal Z ctx addrnd M ≡ Some ContextTooLong
      → signed_in mode (instance_of Z) M ctx (secret_key_of Z.n key) addrnd ≡ None
  pub refused_only : (mode : Mode) (key ctx M : List ℕ) (addrnd : Option (List ℕ))
      → signed_in mode (instance_of Z) M ctx (secret_key_of Z.n key) addrnd ≡ None
      → sign_input_refusal Z ctx addrnd M ≡ Some ContextTooLong
  -- Algorithms 24 and 25: they return true exactly where the calls find nothing to refuse. No call
  -- takes a message of more than 2^60 bytes.
  pub accepted : (mode : Mode) (key ctx M SIG : List ℕ)
      → hash_verify_error Z mode key ctx M SIG ≡ None
      → accepted_in mode (instance_of Z) M SIG ctx (verifying_parts Z.n key)
  pub accepted_only : (mode : Mode) (key ctx M SIG : List ℕ) → length M ≤ 2 ^ 60
      → accepted_in mode (instance_of Z) M SIG ctx (verifying_parts Z.n key)
      → hash_verify_error Z mode key ctx M SIG ≡ None

pub record SetsAgree : Type 0 where
  pub s128 : SetAgrees sha2_128s.scheme
  pub f128 : SetAgrees sha2_128f.scheme
  pub s192 : SetAgrees sha2_192s.scheme
  pub f192 : SetAgrees sha2_192f.scheme
  pub s256 : SetAgrees sha2_256s.scheme
  pub f256 : SetAgrees sha2_256f.scheme
