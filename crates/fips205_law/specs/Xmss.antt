-- XMSS (FIPS 205, section 6).
use Rattle.std.specs.Prelude.{ℕ, zero, suc, ◌+◌, ◌-◌, ◌*◌, ◌/◌, ◌%◌, ◌^◌, ◌==◌, if◌then◌else◌}
use Rattle.std.specs.Prelude.{bit_xor, List, [], ◌++◌, slice_range}
use Rattle.fips205_law.specs.Addresses.{WOTS_HASH, TREE, setTypeAndClear, setKeyPairAddress}
use Rattle.fips205_law.specs.Addresses.{setTreeHeight, setTreeIndex, getTreeIndex}
use Rattle.fips205_law.specs.Loops.{for_below}
use Rattle.fips205_law.specs.Parameters.{Instance, len_of}
use Rattle.fips205_law.specs.Wots.{wots_pkGen, wots_sign, wots_pkFromSig}

-- Algorithm 9, xmss_node: lines 2 to 4 where z is 0, else lines 6 to 11. Only what a line sets last
-- in ADRS is read by the hash after it, so each branch begins with the address that was given.
unfoldable pub xmss_node : Instance → List ℕ → ℕ → ℕ → List ℕ → List ℕ → List ℕ
xmss_node P SKseed i zero PKseed ADRS =
    let ADRS_3 = setKeyPairAddress (setTypeAndClear ADRS WOTS_HASH) i in
    wots_pkGen P SKseed PKseed ADRS_3
xmss_node P SKseed i (suc z) PKseed ADRS =
    let lnode = xmss_node P SKseed (2 * i) z PKseed ADRS in
    let rnode = xmss_node P SKseed (2 * i + 1) z PKseed ADRS in
    let ADRS_10 = setTreeIndex (setTreeHeight (setTypeAndClear ADRS TREE) (suc z)) i in
    P.H PKseed ADRS_10 (lnode ++ rnode)

-- Algorithm 10, xmss_sign: a turn is lines 2 and 3, ADRS_6 lines 5 and 6, sig line 7, the whole
-- line 8
abbrev pub xmss_sign_turn : Instance → List ℕ → ℕ → List ℕ → List ℕ → ℕ → List ℕ → List ℕ
xmss_sign_turn P SKseed idx PKseed ADRS j AUTH =
    let k = bit_xor (idx / 2 ^ j) 1 in AUTH ++ xmss_node P SKseed k j PKseed ADRS

unfoldable pub xmss_sign : Instance → List ℕ → List ℕ → ℕ → List ℕ → List ℕ → List ℕ
xmss_sign P M SKseed idx PKseed ADRS =
    let AUTH = for_below P.hp (xmss_sign_turn P SKseed idx PKseed ADRS) [] in
    let ADRS_6 = setKeyPairAddress (setTypeAndClear ADRS WOTS_HASH) idx in
    let sig = wots_sign P M SKseed PKseed ADRS_6 in
    sig ++ AUTH

-- Algorithm 11, xmss_pkFromSig: ADRS_2 is lines 1 and 2, sig and AUTH lines 3 and 4 (the
-- signature's first len values, and the h' after them), node_0 line 5, ADRS_7 lines 6 and 7, a turn
-- lines 9 to 17. In a turn ADRS_9 is line 9, ADRS_11 line 11 and ADRS_14 line 14.
pub record Node : Type 0 where
  pub node : List ℕ
  pub ADRS : List ℕ

abbrev pub xmss_pkFromSig_turn : Instance → ℕ → List ℕ → List ℕ → ℕ → Node → Node
xmss_pkFromSig_turn P idx AUTH PKseed k s =
    let ADRS_9 = setTreeHeight s.ADRS (k + 1) in
    let AUTH_k = slice_range AUTH (k * P.n) ((k + 1) * P.n) in
    let ADRS_11 = setTreeIndex ADRS_9 (getTreeIndex ADRS_9 / 2) in
    let ADRS_14 = setTreeIndex ADRS_9 ((getTreeIndex ADRS_9 - 1) / 2) in
    if idx / 2 ^ k % 2 == 0
    then record { node = P.H PKseed ADRS_11 (s.node ++ AUTH_k); ADRS = ADRS_11 }
    else record { node = P.H PKseed ADRS_14 (AUTH_k ++ s.node); ADRS = ADRS_14 }

unfoldable pub xmss_pkFromSig : Instance → ℕ → List ℕ → List ℕ → List ℕ → List ℕ → List ℕ
xmss_pkFromSig P idx SIG M PKseed ADRS =
    let ADRS_2 = setKeyPairAddress (setTypeAndClear ADRS WOTS_HASH) idx in
    let sig = slice_range SIG 0 (len_of P * P.n) in
    let AUTH = slice_range SIG (len_of P * P.n) ((len_of P + P.hp) * P.n) in
    let node_0 = wots_pkFromSig P sig M PKseed ADRS_2 in
    let ADRS_7 = setTreeIndex (setTypeAndClear ADRS_2 TREE) idx in
    (for_below P.hp (xmss_pkFromSig_turn P idx AUTH PKseed)
    (record { node = node_0; ADRS = ADRS_7 })).node
