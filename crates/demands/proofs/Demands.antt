-- ALL THREE DEMANDS HOLD. Their sentences are in specs/Demands.antt, their proofs in Demand1, Demand2, Demand3 and what these stand on.
use Rattle.demands.specs.Demands.{Demand1, Demand2, Demand3}
use Rattle.demands.proofs.Demand1 as One
use Rattle.demands.proofs.Demand2 as Two
use Rattle.demands.proofs.Demand3 as Three
use Rattle.demands.proofs.Firmware as F
use Rattle.demands.proofs.OnTheWire as Wire

demand_1 : Demand1
demand_1 =
    record {
      feed_determined = One.feed_determined;
      restart_determined = One.restart_determined;
      post_determined = One.post_determined;
      status_determined = One.status_determined;
      wait_determined = One.wait_determined;
      edge_determined = One.edge_determined;
      in_place_determined = F.in_place_determined;
      write_determined = One.write_determined;
      long_determined = One.long_determined;
      encode_determined = One.encode_is_determined;
      read_bank_determined = One.read_bank_determined;
      feed_decided = One.feed_decided;
      restart_decided = One.restart_decided;
      post_decided = One.post_decided;
      status_decided = One.status_decided;
      wait_decided = One.wait_decided;
      edge_decided = One.edge_decided;
      write_decided = One.write_decided;
      long_decided = One.long_decided;
      encode_decided = One.encode_decided;
      read_bank_decided = One.read_bank_decided;
      feed_rows = One.feed_exactly_by_rows;
      restart_rows = One.restart_exactly_by_rows;
      post_rows = One.post_exactly_by_rows;
      status_rows = One.status_exactly_by_rows;
      wait_rows = One.wait_exactly_by_rows;
      write_rows_lem = One.write_exactly_by_rows;
      edge_12 = One.edge_gives_12;
      edge_2 = One.edge_gives_2;
      edge_3 = One.edge_gives_3;
      edge_no_other = One.edge_no_other;
      edge_leaves = One.edge_refused_leaves;
      in_place_12 = F.in_place_gives_12;
      in_place_2 = F.in_place_gives_2;
      in_place_3 = F.in_place_gives_3;
      in_place_no_other = F.in_place_no_other;
      in_place_leaves = F.in_place_refused_leaves;
      long_8 = One.long_gives_8;
      long_no_other = One.long_no_other;
      encode_8 = One.encode_gives_8;
      encode_no_other = One.encode_no_other;
      encode_none = One.encode_refused_none;
      read_bank_4 = One.read_bank_gives_4;
      read_bank_9 = One.read_bank_gives_9;
      read_bank_10 = One.read_bank_gives_10;
      read_bank_no_other = One.read_bank_no_other;
      feed_possible = One.feed_stays_possible;
      restart_possible = One.restart_stays_possible;
      post_possible = One.post_stays_possible;
      status_possible = One.status_stays_possible;
      wait_possible = One.wait_stays_possible;
      write_possible = One.write_stays_possible;
      edge_possible = One.edge_stays_possible;
      in_place_possible = F.in_place_stays_possible;
      reply_at_most_84 = One.reply_at_most_84;
      past_reply = One.past_reply_untouched;
      lengths_stay = One.feed_lengths_stay;
      at_most_40_cells = One.at_most_40_cells;
    }

demand_2 : Demand2
demand_2 =
    record {
      same_command = Wire.on_the_wire;
      byte_for_byte = One.encode_comes_back;
      any_bytes = Two.any_bytes;
      obeyed_in_order = Two.demand_2;
      obeyed_with_pauses = Two.demand_2_with_pauses;
      obeyed_in_pieces = Two.obeyed_in_pieces;
      state_pair = λ b sheets good low high hold times rooms long pieces spares s fed. Two.state_pair_in_pieces b sheets good low high hold times rooms long pieces spares s fed;
      address_pair = λ b sheets good low high hold times rooms long pieces spares s fed. Two.address_pair_in_pieces b sheets good low high hold times rooms long pieces spares s fed;
      bank_told = Two.own_bank_told;
      bank_not_told = λ b sheets good n number bank from to small times hold two. Two.bank_not_told b sheets good n number bank from to small times hold two;
      bank_replied =
          λ b sheets good bank small some times hold two room long o fed.
          let a = Two.bank_acknowledged b sheets good bank small some times hold two room long o fed in
          (a.0, a.1, Two.bank_replied b sheets good bank small some times hold two room long o fed 16 a.0 a.1, Two.bank_cells_at_most_40 b sheets good bank small some times hold two room long o fed 16 a.0 a.1, Two.bank_read_by_host b sheets good bank small some times hold two room long o fed 16 a.0 a.1);
      no_other_shape = λ reply room cells. One.read_bank_gives_cells reply room room cells;
    }

demand_3 : Demand3
demand_3 =
    record { any_pieces = λ spares b sheets g rooms long. Three.demand_3 spares g rooms long; cut_anywhere = λ spares b sheets g rooms long. Three.cut_anywhere spares g rooms long }

-- THE THEOREM
pub all_three_demands : Demand1 × Demand2 × Demand3
all_three_demands = (demand_1, demand_2, demand_3)
