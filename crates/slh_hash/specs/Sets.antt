-- The parameter sets over SHA-2 (FIPS 205, section 11, table 2).
use Rattle.std.specs.Prelude.{ℕ, List, codes}
use Rattle.slh_core.specs.Parameters.{Scheme, scheme_of}
use Rattle.slh_hash.specs.Sha2.{sha2_category_1, sha2_category_3_5}

-- a set: its name, and its suite with the sizes n, h', d, a and k
pub record SetSizes : Type 0 where
  pub name : List ℕ
  pub scheme : Scheme

abbrev pub sha2_128s : SetSizes
sha2_128s = record {
  name = codes "SLH-DSA-SHA2-128s";
  scheme = scheme_of (sha2_category_1 16 30) 16 9 7 12 14;
}

abbrev pub sha2_128f : SetSizes
sha2_128f = record {
  name = codes "SLH-DSA-SHA2-128f";
  scheme = scheme_of (sha2_category_1 16 34) 16 3 22 6 33;
}

abbrev pub sha2_192s : SetSizes
sha2_192s = record {
  name = codes "SLH-DSA-SHA2-192s";
  scheme = scheme_of (sha2_category_3_5 24 39) 24 9 7 14 17;
}

abbrev pub sha2_192f : SetSizes
sha2_192f = record {
  name = codes "SLH-DSA-SHA2-192f";
  scheme = scheme_of (sha2_category_3_5 24 42) 24 3 22 8 33;
}

abbrev pub sha2_256s : SetSizes
sha2_256s = record {
  name = codes "SLH-DSA-SHA2-256s";
  scheme = scheme_of (sha2_category_3_5 32 47) 32 8 8 14 22;
}

abbrev pub sha2_256f : SetSizes
sha2_256f = record {
  name = codes "SLH-DSA-SHA2-256f";
  scheme = scheme_of (sha2_category_3_5 32 49) 32 4 17 9 35;
}
