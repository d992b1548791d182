-- What a record of the code's says of an order.
use Rattle.definition.specs.Orders.{Place, nowhere, in_header, in_byte, in_two_bytes}
use Rattle.definition.specs.Records.{Record}
use Rattle.rle.specs.declared.record.Place.{Place as CodePlace}
use Rattle.rle.specs.declared.record.Place.TheVariants.{Nowhere, InHeader, InByte, InTwoBytes}
use Rattle.rle.specs.declared.record.OrderRecord.{OrderRecord}
use Rattle.rle.specs.Kinds.{kind_in}

abbrev pub place_in : CodePlace → Place
place_in Nowhere = nowhere
place_in InHeader = in_header
place_in InByte = in_byte
place_in InTwoBytes = in_two_bytes

-- the definition's record that the code's stands for
abbrev pub record_in : OrderRecord → Record
record_in r =
    record {
      header = r.header;
      place = place_in r.place;
      kind = kind_in r.kind;
      run_length = r.run_length;
      pixels = r.pixels;
      first_row = r.first_row;
      inserted = r.inserted;
    }
