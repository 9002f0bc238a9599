use Rattle.std.proofs.Common.{◌≡◌, ◌<◌, ◌+◌, ◌-◌, ◌*◌, ◌/◌, ◌^◌, ◌∙◌, ◌≤◌, ℕ, List, ap, arith, length, refl, sym}
use Rattle.std.proofs.lemmas.Grind.{common_steps}
use Rattle.std.proofs.lemmas.List.{length-replicate, length-take}
use Rattle.std.proofs.lemmas.Nat.{mul-le, pow-add}
use Rattle.slh_core.specs.Bytes.{joined, part}
use Rattle.slh_core.specs.Costs.{wots_pk_cost}
use Rattle.slh_core.specs.Suite.{HasLength}
use Rattle.slh_core.specs.Wots.{wots_pk}
use Rattle.slh_core.proofs.Chains.{length-wots_pk, values_signed}
use Rattle.slh_core.proofs.Joins.{part-joined}
use Rattle.slh_merkle.proofs.CostSteps.{node_cost-leaves}
use Rattle.slh_merkle.proofs.xmss.sign_in_row.Goals as goal

-- trees of height 3 and more have their leaves in eights
all_eights : (h count : ℕ) → 3 ≤ h → count ≡ 2 ^ h → 8 * (count / 8) ≡ count
all_eights h count low whole =
    let split : 2 ^ h ≡ 2 ^ 3 * 2 ^ (h - 3) = (let parts : 3 + (h - 3) ≡ h = omega arith in ap (λ e. 2 ^ e) (sym parts) ∙ pow-add 2 3 (h - 3)) in
    omega (arith, whole, split)

-- and a row of them has room for as many values in eights
room_in_eights : (h count n : ℕ) → 3 ≤ h → count ≡ 2 ^ h → count * n ≡ count / 8 * (8 * n)
room_in_eights h count n low whole =
    let all = all_eights h count low whole in
    let turned : count / 8 * (8 * n) ≡ (8 * (count / 8)) * n = omega arith in
    rw (turned, all) refl

-- each leaf of a row
leaves_given : (leaf : ℕ → List ℕ) (n count h : ℕ) (row : List ℕ) → row ≡ joined (λ k. leaf (0 + k)) count → count ≡ 2 ^ h → ((q : ℕ) → length (leaf q) ≡ n)
    → (k : ℕ) → k < 2 ^ h → part n row k ≡ leaf k
leaves_given leaf n count h row made whole sizes k below =
    let here : 0 + k ≡ k = omega arith in
    ap (λ xs. part n xs k) made ∙ part-joined (λ q. leaf (0 + q)) n count k (λ q. sizes (0 + q)) (rw whole below) ∙ ap leaf here

pub leaves_by_eight-requires-clause-inside : goal.leaves_by_eight-requires-clause-inside
leaves_by_eight-requires-clause-inside g c = omega (arith, c.row_len-count.ensures.few)

pub leaves_by_eight-requires-clause-count : goal.leaves_by_eight-requires-clause-count
leaves_by_eight-requires-clause-count g c = grind (arith, common_steps)

pub leaves_by_eight-requires-clause-whole : goal.leaves_by_eight-requires-clause-whole
leaves_by_eight-requires-clause-whole g c = grind (arith, common_steps)

pub leaves_by_eight-requires-clause-room : goal.leaves_by_eight-requires-clause-room
leaves_by_eight-requires-clause-room g c =
    let n = g.P.N.ArraySize.USIZE in
    let count = c.row_len-count.result in
    let room = room_in_eights c.H_PRIME-height.result count n (omega (arith, c.requires.eights, c.H_PRIME-height.ensures)) c.row_len-count.ensures.value in
    let fits : count * n ≤ 64 * 32 = mul-le count n 64 32 (omega (arith, c.row_len-count.ensures.few)) (omega (arith, c.tree_sizes.ensures.n_high)) in
    rw c.row_size.ensures.value (omega (arith, room, fits, length-take {A = ℕ}, length-replicate {A = ℕ}))

pub hash_up_and_path-requires-clause-low : goal.hash_up_and_path-requires-clause-low
hash_up_and_path-requires-clause-low g c = omega (arith, c.requires.low, c.H_PRIME-height.ensures)

pub hash_up_and_path-requires-clause-leaf : goal.hash_up_and_path-requires-clause-leaf
hash_up_and_path-requires-clause-leaf g c = rw c.H_PRIME-height.ensures c.requires.idx

pub hash_up_and_path-requires-clause-room : goal.hash_up_and_path-requires-clause-room
hash_up_and_path-requires-clause-room g c =
    let n = g.P.N.ArraySize.USIZE in
    let count = c.row_len-count.result in
    let fits : count * n ≤ 64 * 32 = mul-le count n 64 32 (omega (arith, c.row_len-count.ensures.few)) (omega (arith, c.tree_sizes.ensures.n_high)) in
    let long = rw c.row_size.ensures.value at c.leaves_by_eight.auto.out in
    rw (← c.row_len-count.ensures.value) (omega (arith, long, fits, length-take {A = ℕ}, length-replicate {A = ℕ}))

pub hash_up_and_path-requires-clause-path_room : goal.hash_up_and_path-requires-clause-path_room
hash_up_and_path-requires-clause-path_room g c =
    let back = rw c.ends_len.ensures.value at c.split_at_mut-chains.ensures.back_len in
    rw c.H_PRIME-height.ensures (omega (arith, back, c.requires.room))

pub returns : goal.returns
returns g c =
    let K = g.P.HashSuite.keyed_suite c.args.keyed.now in
    let n = g.P.N.ArraySize.USIZE in
    let same = g.met.P.HashSuite.keyed_suite_is c.args.keyed.now in
    let size : K.n ≡ n = ap (λ k. k.n) same in
    let law : HasLength K.suite K.n = rw same (g.met.P.HashSuite.lengths c.tree_sizes.ensures.n_high) in
    let sk = c.args.sk_seed.now in
    let j = c.args.adrs.now.layer_adrs in
    let t = c.args.adrs.now.tree_adrs_low in
    let y = c.args.idx in
    let leaf = wots_pk K sk j t in
    let h = g.P.XmssSizes.H_PRIME in
    let count = c.row_len-count.result in
    let all = all_eights c.H_PRIME-height.result count (omega (arith, c.requires.eights, c.H_PRIME-height.ensures)) c.row_len-count.ensures.value in
    let made = rw (c.tree_adrs-place.ensures, all) at c.leaves_by_eight.ensures.leaves in
    let given = leaves_given leaf n count c.H_PRIME-height.result c.leaves_by_eight.new.out made c.row_len-count.ensures.value (λ q. length-wots_pk K sk j t q law ∙ size) in
    let here : 0 + y ≡ y = omega arith in
    let inside : y < 8 * (count / 8) = rw (all, c.row_len-count.ensures.value, c.H_PRIME-height.ensures) c.requires.idx in
    let written = rw (c.tree_adrs-place.ensures, here, c.WOTS_SIG_LEN-len.ensures, c.tree_sizes.ensures.signature_len, c.message_digits-all.ensures, ← size) at (c.leaves_by_eight.ensures.values inside) in
    let signed = written ∙ values_signed K sk j t y c.split_at_mut-chains.result.0.now c.args.m.now in
    let path = rw (c.H_PRIME-height.ensures, c.tree_adrs-place.ensures) at (c.hash_up_and_path.ensures.path leaf given) in
    let hashed = rw (all, c.row_len-count.ensures.value, c.H_PRIME-height.ensures) at c.leaves_by_eight.ensures.cost in
    record {
      root = c.part_of.ensures ∙ rw (c.H_PRIME-height.ensures, c.tree_adrs-place.ensures) at (c.hash_up_and_path.ensures.root leaf given);
      value = rw (signed, path) refl;
      cost = node_cost-leaves c.args.steps.now (wots_pk_cost g.P.WotsSizes.WOTS_SIG_LEN) h c.leaves_by_eight.new.steps c.hash_up_and_path.new.steps hashed (rw c.H_PRIME-height.ensures at c.hash_up_and_path.ensures.cost);
    }
