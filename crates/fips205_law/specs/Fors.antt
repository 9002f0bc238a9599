-- FORS (FIPS 205, section 8).
use Rattle.std.specs.Prelude.{ℕ, zero, suc, ◌+◌, ◌-◌, ◌*◌, ◌/◌, ◌%◌, ◌^◌, ◌==◌, if◌then◌else◌}
use Rattle.std.specs.Prelude.{bit_xor, List, [], ◌++◌, slice_index, slice_range}
use Rattle.fips205_law.specs.Addresses.{FORS_PRF, FORS_ROOTS, setTypeAndClear, setKeyPairAddress}
use Rattle.fips205_law.specs.Addresses.{getKeyPairAddress, setTreeHeight, setTreeIndex}
use Rattle.fips205_law.specs.Addresses.{getTreeIndex}
use Rattle.fips205_law.specs.Bytes.{base_2b}
use Rattle.fips205_law.specs.Loops.{for_below}
use Rattle.fips205_law.specs.Parameters.{Instance}
use Rattle.fips205_law.specs.Xmss.{Node}

-- Algorithm 14, fors_skGen: skADRS_3 is lines 1 to 3, skADRS_4 line 4, the value line 5
unfoldable pub fors_skGen : Instance → List ℕ → List ℕ → List ℕ → ℕ → List ℕ
fors_skGen P SKseed PKseed ADRS idx =
    let skADRS_3 = setKeyPairAddress (setTypeAndClear ADRS FORS_PRF) (getKeyPairAddress ADRS) in
    let skADRS_4 = setTreeIndex skADRS_3 idx in
    P.PRF PKseed SKseed skADRS_4

-- Algorithm 15, fors_node: lines 2 to 5 where z is 0, else lines 7 to 11
unfoldable pub fors_node : Instance → List ℕ → ℕ → ℕ → List ℕ → List ℕ → List ℕ
fors_node P SKseed i zero PKseed ADRS =
    let sk = fors_skGen P SKseed PKseed ADRS i in
    let ADRS_4 = setTreeIndex (setTreeHeight ADRS 0) i in
    P.F PKseed ADRS_4 sk
fors_node P SKseed i (suc z) PKseed ADRS =
    let lnode = fors_node P SKseed (2 * i) z PKseed ADRS in
    let rnode = fors_node P SKseed (2 * i + 1) z PKseed ADRS in
    let ADRS_10 = setTreeIndex (setTreeHeight ADRS (suc z)) i in
    P.H PKseed ADRS_10 (lnode ++ rnode)

-- Algorithm 16, fors_sign: indices is line 2, a turn lines 4 to 9; in a turn SIG_4 is line 4, AUTH
-- lines 5 to 8, of which a turn is lines 6 and 7
abbrev pub fors_auth_turn : Instance → List ℕ → List ℕ → List ℕ → List ℕ → ℕ → ℕ → List ℕ → List ℕ
fors_auth_turn P indices SKseed PKseed ADRS i j AUTH =
    let s = bit_xor (slice_index indices i / 2 ^ j) 1 in
    AUTH ++ fors_node P SKseed (i * 2 ^ (P.a - j) + s) j PKseed ADRS

abbrev pub fors_sign_turn : Instance → List ℕ → List ℕ → List ℕ → List ℕ → ℕ → List ℕ → List ℕ
fors_sign_turn P indices SKseed PKseed ADRS i SIG =
    let SIG_4 = SIG ++ fors_skGen P SKseed PKseed ADRS (i * 2 ^ P.a + slice_index indices i) in
    let AUTH = for_below P.a (fors_auth_turn P indices SKseed PKseed ADRS i) [] in
    SIG_4 ++ AUTH

unfoldable pub fors_sign : Instance → List ℕ → List ℕ → List ℕ → List ℕ → List ℕ
fors_sign P md SKseed PKseed ADRS =
    let indices = base_2b md P.a P.k in
    for_below P.k (fors_sign_turn P indices SKseed PKseed ADRS) []

-- Algorithm 17, fors_pkFromSig: indices is line 1, a turn lines 3 to 19, forspkADRS lines 21 to 23,
-- the public key line 24. In a turn sk is line 3 (the value that opens part i), ADRS_5 lines 4 and
-- 5, node_0 line 6, auth line 7 (the a values after it), and the way up lines 8 to 18: there ADRS_9
-- is line 9, ADRS_11 line 11 and ADRS_14 line 14.
pub record ForsRoots : Type 0 where
  pub root : List ℕ
  pub ADRS : List ℕ

abbrev pub fors_climb_turn : Instance → ℕ → List ℕ → List ℕ → ℕ → Node → Node
fors_climb_turn P index auth PKseed j s =
    let ADRS_9 = setTreeHeight s.ADRS (j + 1) in
    let auth_j = slice_range auth (j * P.n) ((j + 1) * P.n) in
    let ADRS_11 = setTreeIndex ADRS_9 (getTreeIndex ADRS_9 / 2) in
    let ADRS_14 = setTreeIndex ADRS_9 ((getTreeIndex ADRS_9 - 1) / 2) in
    if index / 2 ^ j % 2 == 0
    then record { node = P.H PKseed ADRS_11 (s.node ++ auth_j); ADRS = ADRS_11 }
    else record { node = P.H PKseed ADRS_14 (auth_j ++ s.node); ADRS = ADRS_14 }

abbrev pub fors_pkFromSig_turn : Instance → List ℕ → List ℕ → List ℕ → ℕ → ForsRoots → ForsRoots
fors_pkFromSig_turn P SIG indices PKseed i s =
    let sk = slice_range SIG (i * (P.a + 1) * P.n) ((i * (P.a + 1) + 1) * P.n) in
    let ADRS_5 = setTreeIndex (setTreeHeight s.ADRS 0) (i * 2 ^ P.a + slice_index indices i) in
    let node_0 = P.F PKseed ADRS_5 sk in
    let auth = slice_range SIG ((i * (P.a + 1) + 1) * P.n) ((i + 1) * (P.a + 1) * P.n) in
    let up = for_below P.a (fors_climb_turn P (slice_index indices i) auth PKseed)
    (record { node = node_0; ADRS = ADRS_5 }) in
    record { root = s.root ++ up.node; ADRS = up.ADRS }

unfoldable pub fors_pkFromSig : Instance → List ℕ → List ℕ → List ℕ → List ℕ → List ℕ
fors_pkFromSig P SIG md PKseed ADRS =
    let indices = base_2b md P.a P.k in
    let s = for_below P.k (fors_pkFromSig_turn P SIG indices PKseed)
    (record { root = []; ADRS = ADRS }) in
    let forspkADRS = setKeyPairAddress (setTypeAndClear s.ADRS FORS_ROOTS)
    (getKeyPairAddress s.ADRS) in
    P.T PKseed forspkADRS s.root
