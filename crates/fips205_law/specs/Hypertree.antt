-- The hypertree (FIPS 205, section 7).
use Rattle.std.specs.Prelude.{◌≡◌, ℕ, ◌+◌, ◌-◌, ◌*◌, ◌/◌, ◌%◌, ◌^◌, nat_lt, if◌then◌else◌, List}
use Rattle.std.specs.Prelude.{◌++◌, slice_range}
use Rattle.fips205_law.specs.Addresses.{setLayerAddress, setTreeAddress}
use Rattle.fips205_law.specs.Bytes.{toByte}
use Rattle.fips205_law.specs.Loops.{for_from}
use Rattle.fips205_law.specs.Parameters.{Instance, len_of}
use Rattle.fips205_law.specs.Xmss.{xmss_sign, xmss_pkFromSig}

-- Algorithm 12, ht_sign: ADRS is lines 1 and 2, SIG_tmp line 3, the start of the loop lines 4 and
-- 5, a turn lines 7 to 15
pub record HtSign : Type 0 where
  pub SIG : List ℕ
  pub root : List ℕ
  pub idx_tree : ℕ
  pub idx_leaf : ℕ
  pub ADRS : List ℕ

abbrev pub ht_sign_turn : Instance → List ℕ → List ℕ → ℕ → HtSign → HtSign
ht_sign_turn P SKseed PKseed j s =
    let idx_leaf = s.idx_tree % 2 ^ P.hp in
    let idx_tree = s.idx_tree / 2 ^ P.hp in
    let ADRS = setTreeAddress (setLayerAddress s.ADRS j) idx_tree in
    let SIG_tmp = xmss_sign P s.root SKseed idx_leaf PKseed ADRS in
    let root = if nat_lt j (P.d - 1) then xmss_pkFromSig P idx_leaf SIG_tmp s.root PKseed ADRS
    else s.root in
    record {
      SIG = s.SIG ++ SIG_tmp;
      root = root;
      idx_tree = idx_tree;
      idx_leaf = idx_leaf;
      ADRS = ADRS;
    }

unfoldable pub ht_sign : Instance → List ℕ → List ℕ → List ℕ → ℕ → ℕ → List ℕ
ht_sign P M SKseed PKseed idx_tree idx_leaf =
    let ADRS = setTreeAddress (toByte 0 32) idx_tree in
    let SIG_tmp = xmss_sign P M SKseed idx_leaf PKseed ADRS in
    let root = xmss_pkFromSig P idx_leaf SIG_tmp M PKseed ADRS in
    (for_from 1 (P.d - 1) (ht_sign_turn P SKseed PKseed)
    (record {
      SIG = SIG_tmp;
      root = root;
      idx_tree = idx_tree;
      idx_leaf = idx_leaf;
      ADRS = ADRS;
    })).SIG

-- Algorithm 13, ht_verify: ADRS is lines 1 and 2, SIG_tmp line 3 (the first layer's part of the
-- signature), node line 4, a turn lines 6 to 11, in which SIG_tmp is line 10 (the part of layer j)
pub record HtVerify : Type 0 where
  pub node : List ℕ
  pub idx_tree : ℕ
  pub idx_leaf : ℕ
  pub ADRS : List ℕ

abbrev pub ht_verify_turn : Instance → List ℕ → List ℕ → ℕ → HtVerify → HtVerify
ht_verify_turn P SIG PKseed j s =
    let idx_leaf = s.idx_tree % 2 ^ P.hp in
    let idx_tree = s.idx_tree / 2 ^ P.hp in
    let ADRS = setTreeAddress (setLayerAddress s.ADRS j) idx_tree in
    let SIG_tmp = slice_range SIG (j * (P.hp + len_of P) * P.n)
    ((j + 1) * (P.hp + len_of P) * P.n) in
    let node = xmss_pkFromSig P idx_leaf SIG_tmp s.node PKseed ADRS in
    record { node = node; idx_tree = idx_tree; idx_leaf = idx_leaf; ADRS = ADRS }

-- the node after the loop's end, line 12
unfoldable pub ht_verify_node : Instance → List ℕ → List ℕ → List ℕ → ℕ → ℕ → List ℕ
ht_verify_node P M SIG PKseed idx_tree idx_leaf =
    let ADRS = setTreeAddress (toByte 0 32) idx_tree in
    let SIG_tmp = slice_range SIG 0 ((P.hp + len_of P) * P.n) in
    let node = xmss_pkFromSig P idx_leaf SIG_tmp M PKseed ADRS in
    (for_from 1 (P.d - 1) (ht_verify_turn P SIG PKseed)
    (record { node = node; idx_tree = idx_tree; idx_leaf = idx_leaf; ADRS = ADRS })).node

-- that it returns true, lines 13 to 17
abbrev pub ht_verify : Instance → List ℕ → List ℕ → List ℕ → ℕ → ℕ → List ℕ → Type 0
ht_verify P M SIG PKseed idx_tree idx_leaf PKroot =
    ht_verify_node P M SIG PKseed idx_tree idx_leaf ≡ PKroot
