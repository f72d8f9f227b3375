pub mod SearchByNumber
