-- The fields of a weave as contracts see them.
use Rattle.cxl_deal.specs.Weaves.{WeaveFields}
use Rattle.cxl_deal.specs.declared.weave.Weave.TheInside.{Inside}

-- each field as it is
abbrev pub fields_of : Inside → WeaveFields
fields_of w = record {
  base = w.base;
  gran = w.gran;
  root_bits = w.root_bits;
  third = w.third;
  low_bits = w.low_bits;
  xor = w.xor;
  maps = w.maps;
}

-- and back
abbrev pub inside_of : WeaveFields → Inside
inside_of w = record {
  base = w.base;
  gran = w.gran;
  root_bits = w.root_bits;
  third = w.third;
  low_bits = w.low_bits;
  xor = w.xor;
  maps = w.maps;
}
