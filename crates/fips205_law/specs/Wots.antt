-- WOTS+ (FIPS 205, section 5). An array of values of n bytes is the string of its values one after
-- the other, as T_len and a signature have it, and sig[i] is its bytes from i · n to (i + 1) · n.
-- A function is given the value of ADRS, and what it sets in it stays its own: the standard's
-- algorithms read no part of ADRS that a function they called may have set.
use Rattle.std.specs.Prelude.{ℕ, ◌+◌, ◌-◌, ◌*◌, ◌%◌, ◌^◌, List, [], ◌++◌, slice_index, slice_range}
use Rattle.fips205_law.specs.Addresses.{WOTS_PRF, WOTS_PK, setTypeAndClear, setKeyPairAddress}
use Rattle.fips205_law.specs.Addresses.{setChainAddress, setHashAddress, getKeyPairAddress}
use Rattle.fips205_law.specs.Bytes.{toByte, base_2b}
use Rattle.fips205_law.specs.Loops.{for_below, for_from}
use Rattle.fips205_law.specs.Parameters.{Instance, ceil_div, w_of, len1_of, len2_of, len_of}

-- Algorithm 5, chain: the start is line 1, a turn lines 3 and 4
pub record Chain : Type 0 where
  pub tmp : List ℕ
  pub ADRS : List ℕ

abbrev pub chain_turn : Instance → List ℕ → ℕ → Chain → Chain
chain_turn P PKseed j s =
    let ADRS = setHashAddress s.ADRS j in
    record { tmp = P.F PKseed ADRS s.tmp; ADRS = ADRS }

unfoldable pub chain : Instance → List ℕ → ℕ → ℕ → List ℕ → List ℕ → List ℕ
chain P X i s PKseed ADRS =
    (for_from i s (chain_turn P PKseed) (record { tmp = X; ADRS = ADRS })).tmp

-- what the loops of algorithms 6, 7 and 8 change
pub record Wots : Type 0 where
  pub skADRS : List ℕ
  pub ADRS : List ℕ
  pub tmp : List ℕ

-- Algorithm 6, wots_pkGen: skADRS is lines 1 to 3, a turn lines 5 to 8, wotspkADRS lines 10 to 12,
-- the public key line 13
abbrev pub wots_pkGen_turn : Instance → List ℕ → List ℕ → ℕ → Wots → Wots
wots_pkGen_turn P SKseed PKseed i s =
    let skADRS = setChainAddress s.skADRS i in
    let sk = P.PRF PKseed SKseed skADRS in
    let ADRS = setChainAddress s.ADRS i in
    record { skADRS = skADRS; ADRS = ADRS; tmp = s.tmp ++ chain P sk 0 (w_of P - 1) PKseed ADRS }

unfoldable pub wots_pkGen : Instance → List ℕ → List ℕ → List ℕ → List ℕ
wots_pkGen P SKseed PKseed ADRS =
    let skADRS = setKeyPairAddress (setTypeAndClear ADRS WOTS_PRF) (getKeyPairAddress ADRS) in
    let s = for_below (len_of P) (wots_pkGen_turn P SKseed PKseed)
    (record { skADRS = skADRS; ADRS = ADRS; tmp = [] }) in
    let wotspkADRS = setKeyPairAddress (setTypeAndClear s.ADRS WOTS_PK)
    (getKeyPairAddress s.ADRS) in
    P.T PKseed wotspkADRS s.tmp

-- Algorithms 7 and 8, lines 1 to 7: msg at first is line 2, csum lines 1 and 3 to 5, shifted line
-- 6, the whole line 7
abbrev pub csum_turn : Instance → List ℕ → ℕ → ℕ → ℕ
csum_turn P msg i csum = csum + w_of P - 1 - slice_index msg i

unfoldable pub wots_msg : Instance → List ℕ → List ℕ
wots_msg P M =
    let msg = base_2b M P.lg_w (len1_of P) in
    let csum = for_below (len1_of P) (csum_turn P msg) 0 in
    let shifted = csum * 2 ^ ((8 - len2_of P * P.lg_w % 8) % 8) in
    msg ++ base_2b (toByte shifted (ceil_div (len2_of P * P.lg_w) 8)) P.lg_w (len2_of P)

-- Algorithm 7, wots_sign: msg is lines 1 to 7, skADRS lines 8 to 10, a turn lines 12 to 15
abbrev pub wots_sign_turn : Instance → List ℕ → List ℕ → List ℕ → ℕ → Wots → Wots
wots_sign_turn P msg SKseed PKseed i s =
    let skADRS = setChainAddress s.skADRS i in
    let sk = P.PRF PKseed SKseed skADRS in
    let ADRS = setChainAddress s.ADRS i in
    let sig_i = chain P sk 0 (slice_index msg i) PKseed ADRS in
    record { skADRS = skADRS; ADRS = ADRS; tmp = s.tmp ++ sig_i }

unfoldable pub wots_sign : Instance → List ℕ → List ℕ → List ℕ → List ℕ → List ℕ
wots_sign P M SKseed PKseed ADRS =
    let msg = wots_msg P M in
    let skADRS = setKeyPairAddress (setTypeAndClear ADRS WOTS_PRF) (getKeyPairAddress ADRS) in
    (for_below (len_of P) (wots_sign_turn P msg SKseed PKseed)
    (record { skADRS = skADRS; ADRS = ADRS; tmp = [] })).tmp

-- Algorithm 8, wots_pkFromSig: msg is lines 1 to 7, a turn lines 9 and 10, wotspkADRS lines 12 to
-- 14, the public key line 15
abbrev pub wots_pkFromSig_turn : Instance → List ℕ → List ℕ → List ℕ → ℕ → Chain → Chain
wots_pkFromSig_turn P sig msg PKseed i s =
    let ADRS = setChainAddress s.ADRS i in
    let sig_i = slice_range sig (i * P.n) ((i + 1) * P.n) in
    let msg_i = slice_index msg i in
    record { tmp = s.tmp ++ chain P sig_i msg_i (w_of P - 1 - msg_i) PKseed ADRS; ADRS = ADRS }

unfoldable pub wots_pkFromSig : Instance → List ℕ → List ℕ → List ℕ → List ℕ → List ℕ
wots_pkFromSig P sig M PKseed ADRS =
    let msg = wots_msg P M in
    let s = for_below (len_of P) (wots_pkFromSig_turn P sig msg PKseed)
    (record { tmp = []; ADRS = ADRS }) in
    let wotspkADRS = setKeyPairAddress (setTypeAndClear s.ADRS WOTS_PK)
    (getKeyPairAddress s.ADRS) in
    P.T PKseed wotspkADRS s.tmp
