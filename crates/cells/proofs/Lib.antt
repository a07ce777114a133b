pub mod Owning
pub mod Numbers
pub mod Laws
pub mod BitLaws
pub mod CommonLaws
