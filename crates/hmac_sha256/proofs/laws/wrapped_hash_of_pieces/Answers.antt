use Rattle.hmac_sha256.proofs.laws.wrapped_hash_of_pieces.Goals as goal

pub returns : goal.returns
returns c =
    c.finalize_into.ensures _
    (c.update-2.ensures.absorbs.grows _ (c.update.ensures.absorbs.grows _ c.from_core-hash.ensures.stands))
