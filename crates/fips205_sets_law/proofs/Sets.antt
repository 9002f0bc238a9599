-- The six sets are valid rows.
use Rattle.std.proofs.Common.{lit<, lit≤, refl}
use Rattle.slh_core.specs.Parameters.{Scheme}
use Rattle.slh_hash.specs.Lengths.{sha2_category_1_lengths, sha2_category_1_digest_length, sha2_category_3_5_lengths, sha2_category_3_5_digest_length}
use Rattle.slh_hash.specs.Sets.{sha2_128s, sha2_128f, sha2_192s, sha2_192f, sha2_256s, sha2_256f}
use Rattle.slh_hash.specs.ValueBytes.{sha2_category_1_bytes, sha2_category_3_5_bytes}
use Rattle.fips205_law.specs.Law.{IsRow}
use Rattle.fips205_law.proofs.Rows.{secret_made, public_made, sound_row, forest_row}
use Rattle.fips205_law.proofs.Slh.{slh_sign_internal-project, accepted, accepted_back}
use Rattle.fips205_sets_law.specs.Law.{TablesAgree, SetAgrees, SetsAgree}
use Rattle.fips205_sets_law.proofs.Modes.{accepted_at, accepted_only_at, refused_at, refused_only_at, signed_at}
use Rattle.fips205_sets_law.proofs.Functions.{category_1, category_3_5, digest_256_bytes, digest_512_bytes}

-- the laws at a valid row
at_row : (Z : Scheme) → IsRow Z → SetAgrees Z
at_row Z row = record {
  secret = λ sk prf s. secret_made Z sk prf s row;
  public = λ sk prf s. public_made Z sk prf s row;
  sign = λ key M addrnd. slh_sign_internal-project Z key M addrnd (sound_row Z row) (forest_row Z row);
  only = λ s root M SIG. accepted Z s root M SIG (sound_row Z row) (forest_row Z row);
  always = λ s root M SIG. accepted_back Z s root M SIG (sound_row Z row) (forest_row Z row);
  drawn = λ sk prf s. secret_made Z sk prf s row;
  signed = signed_at Z row;
  refused = refused_at Z;
  refused_only = refused_only_at Z row;
  accepted = accepted_at Z row;
  accepted_only = accepted_only_at Z row;
}

s128_row : IsRow sha2_128s.scheme
s128_row = record {
  m = 30;
  digits = 32;
  chains = 35;
  h = 63;
  md = 21;
  wots = record { n_low = lit≤ tt; n_high = lit≤ tt; message_len = refl; signature_len = refl };
  xmss = record { height_low = lit≤ tt; height_high = lit≤ tt };
  hypertree = record { layers = lit≤ tt; height = refl; tree_bits = lit≤ tt };
  fors = record { bits_low = lit≤ tt; bits_high = lit≤ tt; trees_low = lit≤ tt; trees_high = lit≤ tt; leaves = lit< tt; forest_len = refl; digest_len = refl };
  three_digits = lit≤ tt;
  lengths = sha2_category_1_lengths 16 30 (lit≤ tt);
  bytes = sha2_category_1_bytes 16 30;
  digest_len = sha2_category_1_digest_length 16 30;
  digest_bytes = digest_256_bytes 30;
}

f128_row : IsRow sha2_128f.scheme
f128_row = record {
  m = 34;
  digits = 32;
  chains = 35;
  h = 66;
  md = 25;
  wots = record { n_low = lit≤ tt; n_high = lit≤ tt; message_len = refl; signature_len = refl };
  xmss = record { height_low = lit≤ tt; height_high = lit≤ tt };
  hypertree = record { layers = lit≤ tt; height = refl; tree_bits = lit≤ tt };
  fors = record { bits_low = lit≤ tt; bits_high = lit≤ tt; trees_low = lit≤ tt; trees_high = lit≤ tt; leaves = lit< tt; forest_len = refl; digest_len = refl };
  three_digits = lit≤ tt;
  lengths = sha2_category_1_lengths 16 34 (lit≤ tt);
  bytes = sha2_category_1_bytes 16 34;
  digest_len = sha2_category_1_digest_length 16 34;
  digest_bytes = digest_256_bytes 34;
}

s192_row : IsRow sha2_192s.scheme
s192_row = record {
  m = 39;
  digits = 48;
  chains = 51;
  h = 63;
  md = 30;
  wots = record { n_low = lit≤ tt; n_high = lit≤ tt; message_len = refl; signature_len = refl };
  xmss = record { height_low = lit≤ tt; height_high = lit≤ tt };
  hypertree = record { layers = lit≤ tt; height = refl; tree_bits = lit≤ tt };
  fors = record { bits_low = lit≤ tt; bits_high = lit≤ tt; trees_low = lit≤ tt; trees_high = lit≤ tt; leaves = lit< tt; forest_len = refl; digest_len = refl };
  three_digits = lit≤ tt;
  lengths = sha2_category_3_5_lengths 24 39 (lit≤ tt);
  bytes = sha2_category_3_5_bytes 24 39;
  digest_len = sha2_category_3_5_digest_length 24 39;
  digest_bytes = digest_512_bytes 39;
}

f192_row : IsRow sha2_192f.scheme
f192_row = record {
  m = 42;
  digits = 48;
  chains = 51;
  h = 66;
  md = 33;
  wots = record { n_low = lit≤ tt; n_high = lit≤ tt; message_len = refl; signature_len = refl };
  xmss = record { height_low = lit≤ tt; height_high = lit≤ tt };
  hypertree = record { layers = lit≤ tt; height = refl; tree_bits = lit≤ tt };
  fors = record { bits_low = lit≤ tt; bits_high = lit≤ tt; trees_low = lit≤ tt; trees_high = lit≤ tt; leaves = lit< tt; forest_len = refl; digest_len = refl };
  three_digits = lit≤ tt;
  lengths = sha2_category_3_5_lengths 24 42 (lit≤ tt);
  bytes = sha2_category_3_5_bytes 24 42;
  digest_len = sha2_category_3_5_digest_length 24 42;
  digest_bytes = digest_512_bytes 42;
}

s256_row : IsRow sha2_256s.scheme
s256_row = record {
  m = 47;
  digits = 64;
  chains = 67;
  h = 64;
  md = 39;
  wots = record { n_low = lit≤ tt; n_high = lit≤ tt; message_len = refl; signature_len = refl };
  xmss = record { height_low = lit≤ tt; height_high = lit≤ tt };
  hypertree = record { layers = lit≤ tt; height = refl; tree_bits = lit≤ tt };
  fors = record { bits_low = lit≤ tt; bits_high = lit≤ tt; trees_low = lit≤ tt; trees_high = lit≤ tt; leaves = lit< tt; forest_len = refl; digest_len = refl };
  three_digits = lit≤ tt;
  lengths = sha2_category_3_5_lengths 32 47 (lit≤ tt);
  bytes = sha2_category_3_5_bytes 32 47;
  digest_len = sha2_category_3_5_digest_length 32 47;
  digest_bytes = digest_512_bytes 47;
}

f256_row : IsRow sha2_256f.scheme
f256_row = record {
  m = 49;
  digits = 64;
  chains = 67;
  h = 68;
  md = 40;
  wots = record { n_low = lit≤ tt; n_high = lit≤ tt; message_len = refl; signature_len = refl };
  xmss = record { height_low = lit≤ tt; height_high = lit≤ tt };
  hypertree = record { layers = lit≤ tt; height = refl; tree_bits = lit≤ tt };
  fors = record { bits_low = lit≤ tt; bits_high = lit≤ tt; trees_low = lit≤ tt; trees_high = lit≤ tt; leaves = lit< tt; forest_len = refl; digest_len = refl };
  three_digits = lit≤ tt;
  lengths = sha2_category_3_5_lengths 32 49 (lit≤ tt);
  bytes = sha2_category_3_5_bytes 32 49;
  digest_len = sha2_category_3_5_digest_length 32 49;
  digest_bytes = digest_512_bytes 49;
}

pub tables : TablesAgree
tables = record {
  s128 = record { n_is = refl; lg_w_is = refl; h_is = refl; d_is = refl; hp_is = refl; a_is = refl; k_is = refl };
  s128_functions = category_1 16 30 9 7 12 14;
  f128 = record { n_is = refl; lg_w_is = refl; h_is = refl; d_is = refl; hp_is = refl; a_is = refl; k_is = refl };
  f128_functions = category_1 16 34 3 22 6 33;
  s192 = record { n_is = refl; lg_w_is = refl; h_is = refl; d_is = refl; hp_is = refl; a_is = refl; k_is = refl };
  s192_functions = category_3_5 24 39 9 7 14 17;
  f192 = record { n_is = refl; lg_w_is = refl; h_is = refl; d_is = refl; hp_is = refl; a_is = refl; k_is = refl };
  f192_functions = category_3_5 24 42 3 22 8 33;
  s256 = record { n_is = refl; lg_w_is = refl; h_is = refl; d_is = refl; hp_is = refl; a_is = refl; k_is = refl };
  s256_functions = category_3_5 32 47 8 8 14 22;
  f256 = record { n_is = refl; lg_w_is = refl; h_is = refl; d_is = refl; hp_is = refl; a_is = refl; k_is = refl };
  f256_functions = category_3_5 32 49 4 17 9 35;
}

pub sets : SetsAgree
sets = record {
  s128 = at_row sha2_128s.scheme s128_row;
  f128 = at_row sha2_128f.scheme f128_row;
  s192 = at_row sha2_192s.scheme s192_row;
  f192 = at_row sha2_192f.scheme f192_row;
  s256 = at_row sha2_256s.scheme s256_row;
  f256 = at_row sha2_256f.scheme f256_row;
}
