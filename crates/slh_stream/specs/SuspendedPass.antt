-- What a pass stands for that is put aside between two pieces.
use Rattle.std.specs.Prelude.{◌≡◌, ℕ, ◌+◌, ◌-◌, ◌≤◌, List, ◌++◌, Option, drop, length}
use Rattle.std.specs.Prelude.{replicate, take}
use Rattle.std.specs.Prelude.{unwrap_or}
use Rattle.slh_core.specs.Bytes.{part}
use Rattle.slh_core.specs.Parameters.{Scheme}
use Rattle.slh_frames.specs.Frames.{frame}
use Rattle.slh_frames.specs.declared.message.TheConstants.{MAX_CONTEXT, MAX_MESSAGE}
use Rattle.slh_hash.specs.Suspended.{HasClearRest, HasHashed, is_category_1, mac_block, new_hashes}
use Rattle.slh_hash.specs.Suspended.{other_hash}
use Rattle.slh_trees.specs.Signing.{digest_signature}
use Rattle.slh_stream.specs.declared.suspended_pass.PassNumbers.{PassNumbers}
use Rattle.slh_stream.specs.declared.suspended_pass.SuspendedPass.{SuspendedPass}

-- The numbers stand for the bytes of a signing key of values of n bytes, but for its secret seed, a
-- randomizer, or none, a context and a message: PRF_msg has absorbed the frame of the message.
-- Behind each value, and behind the bytes that the hash of PRF_msg holds, there are zeros, and the
-- hash of the other function is a new one.
pub record IsPassing (n : ℕ) (numbers : PassNumbers) (key : List ℕ) (opt_rand : Option (List ℕ))
    (context message : List ℕ) : Type 0 where
  pub prf_is : take n numbers.prf ≡ part n key 1
  pub seed_is : take n numbers.seed ≡ part n key 2
  pub root_is : take n numbers.root ≡ part n key 3
  pub randomizer_is : take n numbers.opt_rand ≡ unwrap_or opt_rand (part n key 2)
  pub prf_rest : drop n numbers.prf ≡ replicate (32 - n) 0
  pub seed_rest : drop n numbers.seed ≡ replicate (32 - n) 0
  pub root_rest : drop n numbers.root ≡ replicate (32 - n) 0
  pub randomizer_rest : drop n numbers.opt_rand ≡ replicate (32 - n) 0
  pub context_fits : length context ≤ MAX_CONTEXT
  pub taken_is : numbers.taken ≡ length message
  pub short : length message ≤ MAX_MESSAGE
  pub stands : HasHashed (is_category_1 n) numbers.mac (mac_block (is_category_1 n) (part n key 1)
      ++ unwrap_or opt_rand (part n key 2) ++ frame context message)
  pub mac_rest : HasClearRest (is_category_1 n) numbers.mac
  pub mac_other : other_hash (is_category_1 n) numbers.mac
      ≡ other_hash (is_category_1 n) new_hashes

-- A first pass, which has no R and no H_msg yet.
pub record IsFirstAside (n : ℕ) (state : SuspendedPass) (key : List ℕ)
    (opt_rand : Option (List ℕ)) (context message : List ℕ) : Type 0 where
  pub pass_is : state.pass ≡ 1
  pub passing : IsPassing n state.numbers key opt_rand context message
  pub rand_is : state.numbers.rand ≡ replicate 32 0
  pub digest_is : state.numbers.digest ≡ new_hashes

-- A second pass, which also stands for R, for which H_msg has absorbed the same frame.
pub record IsSecondAside (n : ℕ) (state : SuspendedPass) (key : List ℕ)
    (opt_rand : Option (List ℕ)) (context rand message : List ℕ) : Type 0 where
  pub pass_is : state.pass ≡ 2
  pub passing : IsPassing n state.numbers key opt_rand context message
  pub rand_is : take n state.numbers.rand ≡ rand
  pub rand_rest : drop n state.numbers.rand ≡ replicate (32 - n) 0
  pub hashed : HasHashed (is_category_1 n) state.numbers.digest
      (rand ++ part n key 2 ++ part n key 3 ++ frame context message)
  pub digest_rest : HasClearRest (is_category_1 n) state.numbers.digest
  pub digest_other : other_hash (is_category_1 n) state.numbers.digest
      ≡ other_hash (is_category_1 n) new_hashes

-- What holds of each state that ends in a signature, whatever its numbers are: it is a second pass
-- that has counted at most 2^60 bytes, PRF_msg of what it has absorbed is the R that stands there,
-- and the signature is by the key, with that R, of H_msg of what was absorbed for it.
pub record IsEnded (Z : Scheme) (n : ℕ) (state : SuspendedPass) (key sig : List ℕ)
    : Type 0 where
  pub pass_is : state.pass ≡ 2
  pub short : state.numbers.taken ≤ MAX_MESSAGE
  pub made : (m : List ℕ) → length m ≤ state.numbers.taken + 257
      → HasHashed (is_category_1 n) state.numbers.mac
      (mac_block (is_category_1 n) (take n state.numbers.prf) ++ take n state.numbers.opt_rand ++ m)
      → Z.suite.prf_msg (take n state.numbers.prf) (take n state.numbers.opt_rand) m
      ≡ take n state.numbers.rand
  pub digest : List ℕ
  pub hashed : (m : List ℕ) → length m ≤ state.numbers.taken + 257
      → HasHashed (is_category_1 n) state.numbers.digest (take n state.numbers.rand
      ++ take n state.numbers.seed ++ take n state.numbers.root ++ m)
      → digest ≡ Z.suite.h_msg (take n state.numbers.rand) (take n state.numbers.seed)
      (take n state.numbers.root) m
  pub written : sig ≡ digest_signature Z (part n key 2) (part n key 0)
      (take n state.numbers.rand) digest

-- nothing of a key and of a message stands there
pub record IsBlank (numbers : PassNumbers) : Type 0 where
  pub prf_is : numbers.prf ≡ replicate 32 0
  pub seed_is : numbers.seed ≡ replicate 32 0
  pub root_is : numbers.root ≡ replicate 32 0
  pub opt_rand_is : numbers.opt_rand ≡ replicate 32 0
  pub rand_is : numbers.rand ≡ replicate 32 0
  pub taken_is : numbers.taken ≡ 0
  pub mac_is : numbers.mac ≡ new_hashes
  pub digest_is : numbers.digest ≡ new_hashes
