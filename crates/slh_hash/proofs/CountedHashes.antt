-- The hashes of a seed and a counter, one after another.
use Rattle.std.proofs.Common.{◌≡◌, ℕ, ◌+◌, ◌-◌, ◌≤◌, List, [], ◌∷◌, ◌++◌, length, take, drop, arith, ap, sym, refl, ◌∙◌, append_assoc, Some, None, Option}
use Rattle.std.proofs.lemmas.List.{append-nil}
use Rattle.std.specs.Int.{div_ceil}
use Rattle.hmac_sha256.specs.Gen.{blocks_for}
use Rattle.sha256_lanes.specs.Sha256.{sha256}
use Rattle.slh_core.proofs.Joins.{drop_front, joined_more, take_front}
use Rattle.slh_core.specs.Bytes.{big_endian, joined}
use Rattle.slh_hash.specs.Counted.{GaveHashes}
use Rattle.slh_hash.specs.Sha2.{mgf1_sha256}

abbrev pub hashes : List ℕ → ℕ → List ℕ
hashes seed count = joined (λ i. sha256 (seed ++ big_endian i 4)) count

pub hashes_grow : (stands : List ℕ → Type 0) (c : ℕ) (digest : List ℕ)
    → ((seed : List ℕ) → stands seed → digest ≡ sha256 (seed ++ big_endian c 4))
    → (m : List ℕ) → GaveHashes stands c m → GaveHashes stands (c + 1) (m ++ digest)
hashes_grow stands c digest is_digest m gave =
    let seed = gave.seed in
    let more : hashes seed c ++ digest ≡ hashes seed (c + 1)
    = ap (λ d. hashes seed c ++ d) (is_digest seed gave.absorbed) ∙ sym (joined_more (λ i. sha256 (seed ++ big_endian i 4)) c) in
    record {
      seed = seed;
      absorbed = gave.absorbed;
      gave = ap (λ l. l ++ digest) gave.gave ∙ ap (λ l. length seed ∷ l) (append_assoc seed (hashes seed c) digest ∙ ap (λ l. seed ++ l) more);
    }

-- before the first
pub none_given : (stands : List ℕ → Type 0) (seed : List ℕ) → stands seed → GaveHashes stands 0 (length seed ∷ seed)
unfolding joined
none_given stands seed stood =
    record { seed = seed; absorbed = stood; gave = ap (λ l. length seed ∷ l) (sym (append-nil seed)) }

abbrev first : List ℕ → ℕ
first [] = 0
first (x ∷ xs) = x

abbrev later : List ℕ → List ℕ
later [] = []
later (x ∷ xs) = xs

-- what comes after one seed is of that seed
pub of_one_seed : (stands : List ℕ → Type 0) (c : ℕ) (seed given : List ℕ)
    → GaveHashes stands c ((length seed ∷ seed) ++ given) → given ≡ hashes seed c
of_one_seed stands c seed given gave =
    let other = gave.seed in
    let size : length seed ≡ length other = ap first gave.gave in
    let same : seed ++ given ≡ other ++ hashes other c = ap later gave.gave in
    let is_other : seed ≡ other = sym (take_front (length other) seed given size) ∙ ap (take (length other)) same ∙ take_front (length other) other (hashes other c) refl in
    let rest : given ≡ hashes other c = sym (drop_front (length other) seed given size) ∙ ap (drop (length other)) same ∙ drop_front (length other) other (hashes other c) refl in
    rest ∙ ap (λ s. hashes s c) (sym is_other)

abbrev room_of : Option ℕ → ℕ
room_of (Some room) = room
room_of None = 0

-- how many were given, by the room that is left
pub given_count : (c blocks : ℕ) → blocks ≤ 8 → Some (4294967295 - c) ≡ Some (4294967295 - blocks) → c ≡ blocks
given_count c blocks few rooms =
    let left : 4294967295 - c ≡ 4294967295 - blocks = ap room_of rooms in
    omega (arith, left, few)

-- blocks of 32 bytes for at most 256
pub few_blocks : (len : ℕ) → len ≤ 256 → (blocks_for 32 len ≤ 8) × (blocks_for 32 len ≡ div_ceil len 32)
few_blocks len small = grind arith

-- what was read of them
pub read_hashes : (seed out unread given : List ℕ) → given ≡ out ++ unread
    → given ≡ hashes seed (div_ceil (length out) 32) → out ≡ mgf1_sha256 seed (length out)
unfolding mgf1_sha256
read_hashes seed out unread given parts is_given =
    sym (take_front (length out) out unread refl) ∙ ap (take (length out)) (sym parts ∙ is_given)
