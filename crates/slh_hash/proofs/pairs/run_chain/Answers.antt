use Rattle.std.proofs.Common.{◌≡◌, ℕ, List, ◌+◌, ◌++◌, ◌∙◌, ap, length, refl, take}
use Rattle.std.specs.Int.{to_be_bytes, w32}
use Rattle.std.proofs.lemmas.List.{get_or-replicate}
use Rattle.sha256_lanes.specs.Eight.{head_bytes, lane_bytes}
use Rattle.slh_core.specs.Address.{address_bytes, wots_hash_type, wots_prf_type}
use Rattle.slh_hash.specs.Sha2.{tweaked_hash_256}
use Rattle.slh_hash.proofs.PairRows.{head_of_chain, head_of_step, left_first, left_here, left_other, value_first, value_next}
use Rattle.slh_hash.proofs.pairs.run_chain.Goals as goal
use Rattle.slh_hash.proofs.pairs.run_chain.Goals.{then-q-digit, else-q-digit}

pub loop-q-init : goal.loop-q-init
loop-q-init g c =
    let n = g.N.ArraySize.USIZE in
    let s = c.args.keyed.now.pk_seed in
    let x = c.args.c in
    let heads = c.args.row.now.secrets in
    let numbered = c.numbered-secrets in
    record {
      values = λ sk j t i k row low.
          let head = head_of_chain j t wots_prf_type (i + k) x (head_bytes heads k) (head_bytes numbered.result k) (row.secrets k low)
          (rw (get_or-replicate {A = ℕ} 8 k x 0 low) at (numbered.ensures k low)) in
          let at : List ℕ = address_bytes j t wots_prf_type (i + k) x 0 in
          value_first n s sk j t (i + k) x (take n (lane_bytes c.hash_eight-values.result k))
          (c.hash_eight-values.ensures at k low head ∙ ap (tweaked_hash_256 n s at) (row.seed k low));
      left = λ sk j t i row. left_first n s sk j t (i + c.args.signer) x c.args.digit c.args.place.now;
    }

pub loop-q-preserved : goal.loop-q-preserved
loop-q-preserved g c =
    let n = g.N.ArraySize.USIZE in
    let s = c.args.keyed.now.pk_seed in
    let x = c.args.c in
    let y = c.args.signer in
    let q = c.loop-q.q in
    let heads = c.args.row.now.steps in
    let numbered = c.numbered in
    let on = c.loop-q.invariant in
    let room : length c.loop-q.place ≡ n = c.loop-q.auto.place ∙ c.requires.room in
    record {
      values = λ sk j t i k row low.
          let first = head_of_chain j t wots_hash_type (i + k) x (head_bytes heads k) (head_bytes numbered.result k) (row.steps k low)
          (rw (get_or-replicate {A = ℕ} 8 k x 0 low) at (numbered.ensures k low)) in
          let head = head_of_step j t wots_hash_type (i + k) x q (head_bytes numbered.result k) (take 18 (head_bytes numbered.result k) ++ to_be_bytes w32 q) first refl in
          let next = rw (c.USIZE.ensures, c.from.ensures) at (c.next_eight-values.ensures s (address_bytes j t wots_hash_type (i + k) x q) (take 18 (head_bytes numbered.result k)) k low) in
          value_next n s sk j t (i + k) x q (take n (lane_bytes c.loop-q.values k)) (take n (lane_bytes c.next_eight-values.result k))
          (on.values sk j t i k row low)
          (next (c.begin_eight-begun.ensures k low) head);
      left = λ sk j t i row.
          elim c.if-q-digit.branch [
            | then-q-digit w ↦
                rw w.place-is
                (left_here n s sk j t (i + y) x c.args.digit q c.args.place.now _ w.if-q-digit.true
                (w.write_lane.ensures ∙ ap (λ m. take m (lane_bytes c.loop-q.values y)) room ∙ on.values sk j t i y row c.requires.signer))
            | else-q-digit w ↦
                rw w.place-is
                (left_other n s sk j t (i + y) x c.args.digit q c.args.place.now _ w.if-q-digit.false (on.left sk j t i row))
          ];
    }
